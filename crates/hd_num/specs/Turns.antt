-- Turns about the axes, by quarters.
use Rattle.std.specs.Prelude.{ℕ, zero, suc, ◌==◌, if◌then◌else◌, ℤ, pos, neg_ℤ, List, [], ◌∷◌, map}
use Rattle.hd_num.specs.declared.axis.Axis.{Axis}
use Rattle.hd_num.specs.declared.axis.Axis.TheVariants.{X, Y, Z}
use Rattle.hd_num.specs.Matrices.{Rows, identity, product}

abbrev pub unit_x : List ℤ
unit_x = pos 1 ∷ pos 0 ∷ pos 0 ∷ []

abbrev pub unit_y : List ℤ
unit_y = pos 0 ∷ pos 1 ∷ pos 0 ∷ []

abbrev pub unit_z : List ℤ
unit_z = pos 0 ∷ pos 0 ∷ pos 1 ∷ []

abbrev pub origin : List ℤ
origin = pos 0 ∷ pos 0 ∷ pos 0 ∷ []

abbrev pub opposite : List ℤ → List ℤ
opposite row = map neg_ℤ row

-- one quarter turn: its rows are where the unit vectors go, and the origin stays
abbrev pub turn : Axis → Rows
turn X = unit_x ∷ unit_z ∷ opposite unit_y ∷ origin ∷ []
turn Y = opposite unit_z ∷ unit_y ∷ unit_x ∷ origin ∷ []
turn Z = unit_y ∷ opposite unit_x ∷ unit_z ∷ origin ∷ []

-- n quarter turns, one after the other
unfoldable pub turns : Axis → ℕ → Rows
turns axis zero = identity
turns axis (suc n) = product (turns axis n) (turn axis)

-- the cosine and the sine of n quarter turns, for n below 4
abbrev pub cosine : ℕ → ℤ
cosine n = if n == 0 then pos 1 else (if n == 2 then neg_ℤ (pos 1) else pos 0)

abbrev pub sine : ℕ → ℤ
sine n = if n == 1 then pos 1 else (if n == 3 then neg_ℤ (pos 1) else pos 0)
