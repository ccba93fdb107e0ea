-- Triangles that are added one by one.
use Rattle.std.proofs.Common.{◌≡◌, ℕ, ◌+◌, ◌-◌, ◌≤◌, [], ◌∷◌, ◌++◌, map, arith}
use Rattle.std.specs.List.{range_with_len}
use Rattle.std.proofs.lemmas.List.FromFn.{map-range_with_len_more}

-- what one more corner adds
pub corner_more : {X : Type 0} (f : ℕ → X) (k : ℕ) → 1 ≤ k → map f (range_with_len 1 (k + 1 - 1)) ≡ map f (range_with_len 1 (k - 1)) ++ f k ∷ []
corner_more f k h =
    let one : k + 1 - 1 ≡ (k - 1) + 1 = omega arith in
    rw one (map-range_with_len_more f 1 (k - 1) k (omega arith))
