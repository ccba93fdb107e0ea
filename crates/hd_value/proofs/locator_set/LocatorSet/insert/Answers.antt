use Rattle.std.proofs.Common.{◌≡◌, false, [], ◌∷◌, ◌++◌, filter, subst, sym, ap, ◌∙◌}
use Rattle.hd_value.specs.LocatorSets.{covers, IsApart}
use Rattle.hd_value.proofs.Inserting.{apart_after, stays}
use Rattle.hd_value.proofs.locator_set.LocatorSet.insert.Goals as goal

pub invariant_of-self-2 : goal.invariant_of-self-2
invariant_of-self-2 c =
    let members = c.self.inside.members.items in
    let at = c.args.at.now in
    let none : covers members at ≡ false = cc in
    let same : c.push_reserved.new.self.items ≡ filter (stays at) members ++ at ∷ [] =
    c.push_reserved.ensures.items
    ∙ ap (λ kept. kept ++ c.in_ok-added.added ∷ []) c.drop_below.ensures.kept
    ∙ ap (λ before. filter (stays at) before ++ c.in_ok-added.added ∷ []) c.reserve.ensures.items
    ∙ ap (λ added. filter (stays at) members ++ added ∷ []) c.in_ok-added.ensures
    in
    subst IsApart (sym same) (apart_after members at c.self.invariant none)
