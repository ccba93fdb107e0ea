-- Quarter turns by their cosine and sine.
use Rattle.std.proofs.Common.{◌≡◌, ℕ, zero, suc, ◌+◌, ◌<◌, refl, sym, ap, ◌∙◌, arith, ℤ, pos, ◌-ℤ◌, [], ◌∷◌, w64, FitsSigned, subst, lit<, IsTrue}
use Rattle.hd_num.specs.declared.axis.Axis.{Axis}
use Rattle.hd_num.specs.declared.axis.Axis.TheVariants.{X, Y, Z}
use Rattle.hd_num.specs.Matrices.{Rows, IsMatrix, identity, product, in_range}
use Rattle.hd_num.specs.Turns.{turn, turns, cosine, sine}
use Rattle.hd_num.proofs.Sizes.{kept}

-- the rows of a turn with this cosine, this sine and this opposite of the sine
abbrev pub rows_about : Axis → ℤ → ℤ → ℤ → Rows
rows_about X c s m = (pos 1 ∷ pos 0 ∷ pos 0 ∷ []) ∷ (pos 0 ∷ c ∷ s ∷ []) ∷ (pos 0 ∷ m ∷ c ∷ []) ∷ (pos 0 ∷ pos 0 ∷ pos 0 ∷ []) ∷ []
rows_about Y c s m = (c ∷ pos 0 ∷ m ∷ []) ∷ (pos 0 ∷ pos 1 ∷ pos 0 ∷ []) ∷ (s ∷ pos 0 ∷ c ∷ []) ∷ (pos 0 ∷ pos 0 ∷ pos 0 ∷ []) ∷ []
rows_about Z c s m = (c ∷ s ∷ pos 0 ∷ []) ∷ (m ∷ c ∷ pos 0 ∷ []) ∷ (pos 0 ∷ pos 0 ∷ pos 1 ∷ []) ∷ (pos 0 ∷ pos 0 ∷ pos 0 ∷ []) ∷ []

-- as the code computes them from the cosine and the sine
abbrev pub code_rows : Axis → ℤ → ℤ → Rows
code_rows axis c s = rows_about axis (kept w64 c) (kept w64 s) (kept w64 (pos 0 -ℤ kept w64 s))

quarters : (axis : Axis) (n : ℕ) → n < 4 → code_rows axis (cosine n) (sine n) ≡ turns axis n
unfolding turns product
quarters X zero h = refl
quarters X (suc zero) h = refl
quarters X (suc (suc zero)) h = refl
quarters X (suc (suc (suc zero))) h = refl
quarters X (suc (suc (suc (suc n)))) h = absurd (omega arith)
quarters Y zero h = refl
quarters Y (suc zero) h = refl
quarters Y (suc (suc zero)) h = refl
quarters Y (suc (suc (suc zero))) h = refl
quarters Y (suc (suc (suc (suc n)))) h = absurd (omega arith)
quarters Z zero h = refl
quarters Z (suc zero) h = refl
quarters Z (suc (suc zero)) h = refl
quarters Z (suc (suc (suc zero))) h = refl
quarters Z (suc (suc (suc (suc n)))) h = absurd (omega arith)

pub turned : (axis : Axis) (n : ℕ) (c s : ℤ) → n < 4 → c ≡ cosine n → s ≡ sine n → code_rows axis c s ≡ turns axis n
turned axis n c s h ec es = subst (λ x. code_rows axis x s ≡ turns axis n) (sym ec) (subst (λ y. code_rows axis (cosine n) y ≡ turns axis n) (sym es) (quarters axis n h))

sine_negated : (n : ℕ) → n < 4 → FitsSigned w64 (pos 0 -ℤ kept w64 (sine n))
sine_negated zero h = record { sfits = lit< tt }
sine_negated (suc zero) h = record { sfits = lit< tt }
sine_negated (suc (suc zero)) h = record { sfits = lit< tt }
sine_negated (suc (suc (suc zero))) h = record { sfits = lit< tt }
sine_negated (suc (suc (suc (suc n)))) h = absurd (omega arith)

pub negated_fits : (n : ℕ) (s : ℤ) → s ≡ sine n → n < 4 → FitsSigned w64 (pos 0 -ℤ kept w64 s)
negated_fits n s e h = rw e (sine_negated n h)

pub IsMatrix-turns : (axis : Axis) (n : ℕ) → n < 4 → IsMatrix (turns axis n)
unfolding turns product in_range
IsMatrix-turns X zero h = record { shaped = refl; within = refl }
IsMatrix-turns X (suc zero) h = record { shaped = refl; within = refl }
IsMatrix-turns X (suc (suc zero)) h = record { shaped = refl; within = refl }
IsMatrix-turns X (suc (suc (suc zero))) h = record { shaped = refl; within = refl }
IsMatrix-turns X (suc (suc (suc (suc n)))) h = absurd (omega arith)
IsMatrix-turns Y zero h = record { shaped = refl; within = refl }
IsMatrix-turns Y (suc zero) h = record { shaped = refl; within = refl }
IsMatrix-turns Y (suc (suc zero)) h = record { shaped = refl; within = refl }
IsMatrix-turns Y (suc (suc (suc zero))) h = record { shaped = refl; within = refl }
IsMatrix-turns Y (suc (suc (suc (suc n)))) h = absurd (omega arith)
IsMatrix-turns Z zero h = record { shaped = refl; within = refl }
IsMatrix-turns Z (suc zero) h = record { shaped = refl; within = refl }
IsMatrix-turns Z (suc (suc zero)) h = record { shaped = refl; within = refl }
IsMatrix-turns Z (suc (suc (suc zero))) h = record { shaped = refl; within = refl }
IsMatrix-turns Z (suc (suc (suc (suc n)))) h = absurd (omega arith)

-- a turn about x and then one about y is in range
two_turns_in_range : (a b : ℕ) → a < 4 → b < 4 → IsTrue (in_range (product (turns X a) (turns Y b)))
unfolding turns product in_range
two_turns_in_range zero zero h k = refl
two_turns_in_range zero (suc zero) h k = refl
two_turns_in_range zero (suc (suc zero)) h k = refl
two_turns_in_range zero (suc (suc (suc zero))) h k = refl
two_turns_in_range zero (suc (suc (suc (suc b)))) h k = absurd (omega arith)
two_turns_in_range (suc zero) zero h k = refl
two_turns_in_range (suc zero) (suc zero) h k = refl
two_turns_in_range (suc zero) (suc (suc zero)) h k = refl
two_turns_in_range (suc zero) (suc (suc (suc zero))) h k = refl
two_turns_in_range (suc zero) (suc (suc (suc (suc b)))) h k = absurd (omega arith)
two_turns_in_range (suc (suc zero)) zero h k = refl
two_turns_in_range (suc (suc zero)) (suc zero) h k = refl
two_turns_in_range (suc (suc zero)) (suc (suc zero)) h k = refl
two_turns_in_range (suc (suc zero)) (suc (suc (suc zero))) h k = refl
two_turns_in_range (suc (suc zero)) (suc (suc (suc (suc b)))) h k = absurd (omega arith)
two_turns_in_range (suc (suc (suc zero))) zero h k = refl
two_turns_in_range (suc (suc (suc zero))) (suc zero) h k = refl
two_turns_in_range (suc (suc (suc zero))) (suc (suc zero)) h k = refl
two_turns_in_range (suc (suc (suc zero))) (suc (suc (suc zero))) h k = refl
two_turns_in_range (suc (suc (suc zero))) (suc (suc (suc (suc b)))) h k = absurd (omega arith)
two_turns_in_range (suc (suc (suc (suc a)))) b h k = absurd (omega arith)

pub turns_in_range : (a b : ℕ) (m n : Rows) → a < 4 → b < 4 → m ≡ turns X a → n ≡ turns Y b → IsTrue (in_range (product m n))
turns_in_range a b m n h k em en = rw (em, en) (two_turns_in_range a b h k)

pub turns-four : (axis : Axis) → turns axis 4 ≡ identity
unfolding turns product
turns-four X = refl
turns-four Y = refl
turns-four Z = refl

pub turns-add_four : (axis : Axis) (n : ℕ) → turns axis (n + 4) ≡ turns axis n
unfolding turns
turns-add_four axis zero = turns-four axis
turns-add_four axis (suc n) =
    let e : suc n + 4 ≡ suc (n + 4) = omega arith in
    ap (turns axis) e ∙ ap (λ m. product m (turn axis)) (turns-add_four axis n)
