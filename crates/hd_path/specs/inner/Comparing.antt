-- The laws of the comparisons of names and of lists of names.
use Rattle.std.specs.Prelude.{◌≡◌, ℕ, List, true, nat_eq, Some}
use Rattle.std.specs.Cmp.{IsPartialOrder, partial_order_from_agreeing_total}
use Rattle.std.specs.Cmp.Lexicographic.{pointwise, slice_cmp, lists_total, lists_ties, nat_list_cmp_total, texts_ties, bytes_decides, pointwise_decides}
use Rattle.std.specs.Ordering.{nat_cmp, eq_by_cmp}
use Rattle.std.proofs.Common.{refl}
use Rattle.hd_path.specs.Paths.{Path, path_cmp}

-- bytes that are equal one by one are the same
pub bytes_same : (x y : List ℕ) → pointwise nat_eq x y ≡ true → x ≡ y
bytes_same x y same = (bytes_decides x y).0 same

-- names that are equal one by one are the same
pub names_same : (p q : Path) → pointwise (pointwise nat_eq) p q ≡ true → p ≡ q
names_same p q same = (pointwise_decides bytes_decides p q).0 same

-- paths are equal exactly where the order ties them
pub names_ties : (p q : Path) → pointwise (pointwise nat_eq) p q ≡ eq_by_cmp path_cmp p q
names_ties = lists_ties (slice_cmp nat_cmp) texts_ties

pub names_po : IsPartialOrder (pointwise (pointwise nat_eq)) (λ p q. Some (path_cmp p q))
names_po = partial_order_from_agreeing_total path_cmp (lists_total nat_list_cmp_total) (λ p q. refl) names_ties
