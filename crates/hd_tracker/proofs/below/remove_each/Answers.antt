use Rattle.std.proofs.Common.{◌≡◌, true, false, cond, Option, None, IfSome, IsSome, refl, sym, ◌∙◌, ap, subst}
use Rattle.std.proofs.lemmas.Map.Views.{tells_apart}
use Rattle.std.specs.BTreeMap.{get}
use Rattle.std.specs.Ordering.{is_eq}
use Rattle.hd_path.proofs.Logic.{true_is_not}
use Rattle.hd_path.specs.Paths.{Path, path_cmp, is_prefix}
use Rattle.hd_scene.proofs.Children.{path_cmp_exact}
use Rattle.hd_tracker.proofs.below.remove_each.Goals as goal

-- a path that is not below is another than the one that was taken out
pub loop-first-preserved-in-Some : goal.loop-first-preserved-in-Some
loop-first-preserved-in-Some c = λ p h.
    let path = c.args.path.now in
    let first = c.in-Some.first in
    let below : is_prefix path first ≡ true =
    (subst (λ (o : Option Path). IfSome o (λ q. (is_prefix path q ≡ true) × IsSome (get path_cmp c.loop-first.kept q))) c.in-Some.is c.in_ok-first.ensures.found).0 in
    let other : is_eq (path_cmp first p) ≡ false =
    elim (is_eq (path_cmp first p)) as (λ b. is_eq (path_cmp first p) ≡ b → b ≡ false) [
      | true ↦ λ same. true_is_not (sym below ∙ ap (is_prefix path) (tells_apart path_cmp_exact first p same) ∙ h)
      | false ↦ λ _. refl
    ] refl in
    c.remove.ensures.updates.0 p
    ∙ ap (λ b. cond b None (get path_cmp c.loop-first.kept p)) other
    ∙ c.loop-first.invariant p h
