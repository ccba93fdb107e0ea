use Rattle.std.proofs.Common.{List, ap, ◌∙◌}
use Rattle.std.specs.List.{list_all}
use Rattle.hd_layer.specs.declared.spec.Property.{Property}
use Rattle.hd_layer.specs.WellFormed.{is_below_root, is_property, are_distinct}
use Rattle.hd_retained.specs.Layers.{properties_of}
use Rattle.hd_retained.proofs.Listing.{names, below_root, made_spec, prim_from}
use Rattle.hd_retained.proofs.stored.StoredPrim.with_properties.Goals as goal
use Rattle.hd_path.specs.Names.{Name}

pub of_spec-requires : goal.of_spec-requires
of_spec-requires c =
    made_spec (record { path = c.in_ok-copy.field-0; kind = c.in_ok-copy-2.field-0; properties = c.in_ok-of.field-0 })
    (ap is_below_root c.in_ok-copy.ensures ∙ below_root c.args.path.now c.requires.below_root)
    (ap (list_all is_property) c.in_ok-of.ensures ∙ c.requires.formed)
    (ap (λ (ps : List Property). are_distinct (names ps)) c.in_ok-of.ensures ∙ c.requires.distinct)

pub returns-clause-prim : goal.returns-clause-prim
returns-clause-prim c =
    prim_from c.of_spec.result (record { kind = c.in_ok-copy-2.field-0; properties = properties_of c.in_ok-of.field-0 }) (record { kind = c.args.self.now.kind; properties = properties_of c.args.properties.items }) c.of_spec.ensures.prim
    (ap (λ (kind : Name). record { kind = kind; properties = properties_of c.in_ok-of.field-0 }) c.in_ok-copy-2.ensures
    ∙ ap (λ (ps : List Property). record { kind = c.args.self.now.kind; properties = properties_of ps }) c.in_ok-of.ensures)
