use Rattle.std.proofs.Common.{◌≡◌, List, not, ap, ◌∙◌}
use Rattle.std.specs.List.{list_all}
use Rattle.std.specs.Str.{bytes_eq}
use Rattle.hd_layer.specs.declared.spec.Property.{Property}
use Rattle.hd_layer.specs.WellFormed.{is_property, are_distinct}
use Rattle.hd_retained.specs.Layers.{properties_of}
use Rattle.hd_retained.specs.Edits.{without_value}
use Rattle.hd_retained.specs.inner.Indexed.{prim_of}
use Rattle.hd_retained.proofs.Listing.{names, others, others_are, others_removed, all_filter, distinct_filter, prim_from}
use Rattle.hd_retained.proofs.stored.StoredPrim.without.Goals as goal

pub with_properties-requires-clause-formed : goal.with_properties-requires-clause-formed
with_properties-requires-clause-formed c =
    let kept = c.in_ok-properties.properties.items in
    let is : kept ≡ others c.args.name.now c.args.self.now.properties = others_are kept c.items.result.now c.args.self.now.properties c.text.result.now c.args.name.now c.in_ok-properties.ensures c.items.ensures c.text.ensures in
    ap (list_all is_property) is ∙ all_filter is_property (λ p. not (bytes_eq c.args.name.now p.name)) c.args.self.now.properties c.requires.self_held.formed

pub with_properties-requires-clause-distinct : goal.with_properties-requires-clause-distinct
with_properties-requires-clause-distinct c =
    let kept = c.in_ok-properties.properties.items in
    let is : kept ≡ others c.args.name.now c.args.self.now.properties = others_are kept c.items.result.now c.args.self.now.properties c.text.result.now c.args.name.now c.in_ok-properties.ensures c.items.ensures c.text.ensures in
    ap (λ (ps : List Property). are_distinct (names ps)) is ∙ distinct_filter (λ p. not (bytes_eq c.args.name.now p.name)) c.args.self.now.properties c.requires.self_held.distinct

pub returns-clause-prim : goal.returns-clause-prim
returns-clause-prim c =
    let kept = c.in_ok-properties.properties.items in
    let is : kept ≡ others c.args.name.now c.args.self.now.properties = others_are kept c.items.result.now c.args.self.now.properties c.text.result.now c.args.name.now c.in_ok-properties.ensures c.items.ensures c.text.ensures in
    prim_from c.with_properties.result (record { kind = c.args.self.now.kind; properties = properties_of kept }) (without_value c.args.name.now (prim_of c.args.self.now)) c.with_properties.ensures.prim
    (ap (λ ps. record { kind = c.args.self.now.kind; properties = ps }) (ap properties_of is ∙ others_removed c.args.name.now c.args.self.now.properties))
