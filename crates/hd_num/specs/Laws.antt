-- What holds of products, turns and moved points.
use Rattle.std.specs.Prelude.{◌≡◌, ℕ, ◌+◌, ◌+ℤ◌, ◌*ℤ◌, Some}
use Rattle.hd_num.specs.declared.vector.Vec3.{Vec3}
use Rattle.hd_num.specs.declared.axis.Axis.{Axis}
use Rattle.hd_num.specs.Matrices.{Rows, IsShaped, identity, product, if_in_range}
use Rattle.hd_num.specs.Points.{transform_point}
use Rattle.hd_num.specs.Turns.{turns}
use Rattle.hd_num.specs.Ops.{translation, scaling}

abbrev pub ProductIsAssociative : Type 0
ProductIsAssociative = (a b c : Rows) → product (product a b) c ≡ product a (product b c)

-- composing is too, where neither inner product leaves the range
abbrev pub ComposingIsAssociative : Type 0
ComposingIsAssociative =
    (a b c ab bc : Rows) → if_in_range (product a b) ≡ Some ab → if_in_range (product b c) ≡ Some bc → if_in_range (product ab c) ≡ if_in_range (product a bc)

abbrev pub IdentityIsNeutral : Type 0
IdentityIsNeutral = (m : Rows) → IsShaped m → (product identity m ≡ m) × (product m identity ≡ m)

-- to be moved by a product is to be moved by one matrix and then by the other
abbrev pub ProductMovesInTurn : Type 0
ProductMovesInTurn = (p : Vec3) (a b : Rows) → transform_point p (product a b) ≡ transform_point (transform_point p a) b

abbrev pub IdentityMovesNothing : Type 0
IdentityMovesNothing = (p : Vec3) → transform_point p identity ≡ p

abbrev pub TranslationAdds : Type 0
TranslationAdds = (p v : Vec3) → transform_point p (translation v) ≡ record { x = p.x +ℤ v.x; y = p.y +ℤ v.y; z = p.z +ℤ v.z }

abbrev pub ScalingMultiplies : Type 0
ScalingMultiplies = (p v : Vec3) → transform_point p (scaling v) ≡ record { x = p.x *ℤ v.x; y = p.y *ℤ v.y; z = p.z *ℤ v.z }

abbrev pub FourTurnsAreNone : Type 0
FourTurnsAreNone = (axis : Axis) → turns axis 4 ≡ identity

abbrev pub TurnsRepeat : Type 0
TurnsRepeat = (axis : Axis) (n : ℕ) → turns axis (n + 4) ≡ turns axis n
