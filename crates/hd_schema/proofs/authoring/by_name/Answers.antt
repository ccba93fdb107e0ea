use Rattle.std.proofs.Common.{◌≡◌, List, map, ap, subst, ◌∙◌, rules}
use Rattle.std.specs.Cmp.Lexicographic.{slice_cmp, nat_list_cmp_total}
use Rattle.std.specs.Ordering.{nat_cmp, is_lt}
use Rattle.std.specs.List.Sorted.{IsPermutation}
use Rattle.std.proofs.lemmas.List.{take_all}
use Rattle.std.proofs.lemmas.List.Sorted.{IsPermutation-map, ranks_by, answers_always}
use Rattle.hd_layer.specs.declared.spec.Property.{Property}
use Rattle.hd_schema.proofs.authoring.by_name.Goals as goal

pub returns-clause-same : goal.returns-clause-same
returns-clause-same c =
    let all : map (λ property. property.now) c.loop-property.sorted.items ≡ c.args.properties.now = c.loop-property.invariant ∙ take_all c.loop-property.property-index c.args.properties.now c.loop-property-test.false in
    let moved = IsPermutation-map (λ property. property.now) c.loop-property.sorted.items c.sort_unstable_by.new.self.items c.sort_unstable_by.ensures.permutation in
    subst (λ (ps : List Property). IsPermutation ps (map (λ property. property.now) c.sort_unstable_by.new.self.items)) all moved

pub returns-clause-sorted : goal.returns-clause-sorted
returns-clause-sorted c =
    c.sort_unstable_by.ensures.sorted (λ p q. is_lt (slice_cmp nat_cmp p.now.name q.now.name)) (ranks_by nat_list_cmp_total (λ p. p.now.name))
    (answers_always _ (λ a r. is_lt r ≡ is_lt (slice_cmp nat_cmp a.0.now.now.name a.1.0.now.now.name)) _ (λ f a r f' called. let same : r ≡ slice_cmp nat_cmp a.0.now.now.name a.1.0.now.now.name = search rules in ap is_lt same))
