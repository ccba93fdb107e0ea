-- The paths at and below a path follow each other in path order.
use Rattle.std.proofs.Common.{◌≡◌, Bool, true, false, ◌&&◌, [], ◌∷◌, refl, sym, ◌∙◌, ap}
use Rattle.std.proofs.lemmas.Cmp.{tied_itself}
use Rattle.std.specs.Cmp.Lexicographic.{nat_list_cmp_total}
use Rattle.std.specs.FinMap.{nat_cmp-IsAntisymmetric, slice_cmp-IsAntisymmetric}
use Rattle.std.specs.Ordering.{is_gt, ordering_then, ordering_reverse}
use Rattle.std.specs.declared.cmp.Ordering.{Ordering}
use Rattle.std.specs.declared.cmp.Ordering.TheVariants.{Less, Equal, Greater}
use Rattle.hd_path.specs.Names.{Name, is_same, byte_order}
use Rattle.hd_path.proofs.NamePrefixes.{same_text, same_itself, and_true}
use Rattle.hd_path.proofs.Logic.{true_is_not}
use Rattle.hd_path.specs.Paths.{Path, path_cmp, is_prefix}

-- a prefix is not above what begins with it
pub prefix_first : (p q : Path) → is_prefix p q ≡ true → is_gt (path_cmp p q) ≡ false
prefix_first [] [] h = refl
prefix_first [] (y ∷ q) h = refl
prefix_first (x ∷ p) [] h = true_is_not (sym h)
prefix_first (x ∷ p) (y ∷ q) h =
    let both = and_true (is_same x y) (is_prefix p q) h in
    ap (λ (n : Name). is_gt (ordering_then (byte_order x n) (path_cmp p q))) (sym (same_text x y both.0))
    ∙ ap (λ (r : Ordering). is_gt (ordering_then r (path_cmp p q))) (tied_itself nat_list_cmp_total x)
    ∙ prefix_first p q both.1

both_pass : (a b : Bool) → a ≡ true → b ≡ true → (a && b) ≡ true
both_pass a b p q = ap (λ c. c && b) p ∙ q

-- what lies between a path and one that begins with it begins with it too
pub between_prefix : (p k m : Path) → is_prefix p m ≡ true → is_gt (path_cmp p k) ≡ false → is_gt (path_cmp k m) ≡ false → is_prefix p k ≡ true
between_prefix [] k m h a b = refl
between_prefix (x ∷ p) [] m h a b = true_is_not a
between_prefix (x ∷ p) (y ∷ k) [] h a b = true_is_not (sym h)
between_prefix (x ∷ p) (y ∷ k) (z ∷ m) h a b =
    let both = and_true (is_same x z) (is_prefix p m) h in
    let below : is_gt (ordering_then (byte_order y x) (path_cmp k m)) ≡ false = ap (λ (n : Name). is_gt (ordering_then (byte_order y n) (path_cmp k m))) (same_text x z both.0) ∙ b in
    elim (byte_order x y) as (λ (r : Ordering). byte_order x y ≡ r → is_gt (ordering_then r (path_cmp p k)) ≡ false → (is_same x y && is_prefix p k) ≡ true) [
      | Less ↦ λ less _. true_is_not (sym (ap (λ (r : Ordering). is_gt (ordering_then r (path_cmp k m))) (nat_list_cmp_total.antisymm y x ∙ ap ordering_reverse less)) ∙ below)
      | Equal ↦ λ tie rest.
          let same : x ≡ y = slice_cmp-IsAntisymmetric nat_cmp-IsAntisymmetric x y tie in
          let later : is_gt (path_cmp k m) ≡ false = sym (ap (λ (r : Ordering). is_gt (ordering_then r (path_cmp k m))) (ap (byte_order y) same ∙ tied_itself nat_list_cmp_total y)) ∙ below in
          both_pass (is_same x y) (is_prefix p k) (ap (is_same x) (sym same) ∙ same_itself x) (between_prefix p k m both.1 rest later)
      | Greater ↦ λ _ no. true_is_not no
    ] refl a
