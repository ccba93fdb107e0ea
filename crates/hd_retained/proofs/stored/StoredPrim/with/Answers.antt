use Rattle.std.proofs.Common.{◌≡◌, List, [], ◌∷◌, ◌++◌, not, ap, ◌∙◌}
use Rattle.std.specs.List.{list_all}
use Rattle.std.specs.Str.{bytes_eq}
use Rattle.hd_layer.specs.declared.spec.Property.{Property}
use Rattle.hd_layer.specs.WellFormed.{is_property, are_distinct}
use Rattle.hd_retained.specs.Layers.{properties_of}
use Rattle.hd_retained.specs.Edits.{with_value}
use Rattle.hd_retained.specs.inner.Indexed.{prim_of}
use Rattle.hd_retained.proofs.Listing.{names, others, pushed_are, others_named, others_inserted, all_filter, all_last, distinct_filter, distinct_last, prim_from}
use Rattle.hd_retained.proofs.stored.StoredPrim.with.Goals as goal

pub with_properties-requires-clause-formed : goal.with_properties-requires-clause-formed
with_properties-requires-clause-formed c =
    let ps = c.args.self.now.properties in
    let p = c.args.property.now in
    let kept = c.in_ok-properties.properties.items in
    let is : c.push.new.self.items ≡ others p.name ps ++ p ∷ [] = pushed_are c.push.new.self.items kept c.items.result.now ps c.text.result.now p.name c.in_ok-copy.field-0 p c.in_ok-push.ensures.items c.in_ok-properties.ensures c.items.ensures c.text.ensures c.in_ok-copy.ensures in
    ap (list_all is_property) is ∙ all_last is_property (others p.name ps) p (all_filter is_property (λ q. not (bytes_eq p.name q.name)) ps c.requires.self_held.formed) c.requires.formed

pub with_properties-requires-clause-distinct : goal.with_properties-requires-clause-distinct
with_properties-requires-clause-distinct c =
    let ps = c.args.self.now.properties in
    let p = c.args.property.now in
    let kept = c.in_ok-properties.properties.items in
    let is : c.push.new.self.items ≡ others p.name ps ++ p ∷ [] = pushed_are c.push.new.self.items kept c.items.result.now ps c.text.result.now p.name c.in_ok-copy.field-0 p c.in_ok-push.ensures.items c.in_ok-properties.ensures c.items.ensures c.text.ensures c.in_ok-copy.ensures in
    ap (λ (qs : List Property). are_distinct (names qs)) is
    ∙ distinct_last (others p.name ps) p (distinct_filter (λ q. not (bytes_eq p.name q.name)) ps c.requires.self_held.distinct) (others_named p.name ps)

pub returns-clause-prim : goal.returns-clause-prim
returns-clause-prim c =
    let ps = c.args.self.now.properties in
    let p = c.args.property.now in
    let kept = c.in_ok-properties.properties.items in
    let is : c.push.new.self.items ≡ others p.name ps ++ p ∷ [] = pushed_are c.push.new.self.items kept c.items.result.now ps c.text.result.now p.name c.in_ok-copy.field-0 p c.in_ok-push.ensures.items c.in_ok-properties.ensures c.items.ensures c.text.ensures c.in_ok-copy.ensures in
    prim_from c.with_properties.result (record { kind = c.args.self.now.kind; properties = properties_of c.push.new.self.items }) (with_value p (prim_of c.args.self.now)) c.with_properties.ensures.prim
    (ap (λ qs. record { kind = c.args.self.now.kind; properties = qs }) (ap properties_of is ∙ others_inserted p ps))
