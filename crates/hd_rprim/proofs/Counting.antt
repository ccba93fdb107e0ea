-- Counts that are taken off one by one.
use Rattle.std.proofs.Common.{◌≡◌, ℕ, ◌+◌, ◌<◌, ◌∙◌, ℤ, pos, nat_abs, int_le, List, ◌∷◌, length, get_or, take, drop, sum_by, Bool, true, ◌&&◌, ◌==◌, sym, ap, arith, length-drop}
use Rattle.std.proofs.lemmas.List.{at_drop_more}
use Rattle.std.proofs.lemmas.Bool.Decides.{nat_tests}
use Rattle.std.proofs.lemmas.Grind.{common_steps}
use Rattle.std.specs.List.{list_all}
use Rattle.hd_rprim.specs.Fans.{takes_all, faces}

-- no count is negative, and together they are so many
abbrev pub takes : List ℤ → ℕ → Bool
takes counts left = list_all (int_le (pos 0)) counts && (sum_by nat_abs counts == left)

-- the first face is taken off
pub first_taken : (count : ℤ) (counts rest : List ℤ) → takes_all (count ∷ counts) rest ≡ true → takes_all counts (drop (nat_abs count) rest) ≡ true
first_taken count counts rest h = grind (arith, nat_tests, common_steps, length-drop)

-- the counts after the next one take what it leaves
pub takes_next : (counts : List ℤ) (i : ℕ) (count : ℤ) (rest : List ℤ) → i < length counts → count ≡ get_or counts i (pos 0)
    → takes_all (drop i counts) rest ≡ true → takes_all (drop (i + 1) counts) (drop (nat_abs count) rest) ≡ true
takes_next counts i count rest lt is h =
    first_taken count (drop (i + 1) counts) rest
    (ap (λ (n : ℤ). takes_all (n ∷ drop (i + 1) counts) rest) is ∙ sym (at_drop_more (λ cs. takes_all cs rest) counts i (pos 0) lt) ∙ h)

-- the next face, and those after it
pub faces_next : (counts : List ℤ) (i : ℕ) (count : ℤ) (rest : List ℤ) → i < length counts → count ≡ get_or counts i (pos 0)
    → faces (drop i counts) rest ≡ take (nat_abs count) rest ∷ faces (drop (i + 1) counts) (drop (nat_abs count) rest)
faces_next counts i count rest lt is =
    at_drop_more (λ cs. faces cs rest) counts i (pos 0) lt ∙ ap (λ (n : ℤ). faces (n ∷ drop (i + 1) counts) rest) (sym is)
