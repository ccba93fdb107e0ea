-- The matrices of transform ops.
use Rattle.std.specs.Prelude.{◌%◌, pos, [], ◌∷◌}
use Rattle.hd_num.specs.declared.vector.Vec3.{Vec3}
use Rattle.hd_num.specs.declared.axis.Axis.TheVariants.{X, Y, Z}
use Rattle.hd_num.specs.declared.op.Op.{Op}
use Rattle.hd_num.specs.declared.op.Op.TheVariants.{Translate, Scale, Rotate, RotateXyz, Transform}
use Rattle.hd_num.specs.Matrices.{Rows, product}
use Rattle.hd_num.specs.Points.{components}
use Rattle.hd_num.specs.Turns.{unit_x, unit_y, unit_z, origin, turns}

-- adds v to each point
abbrev pub translation : Vec3 → Rows
translation v = unit_x ∷ unit_y ∷ unit_z ∷ components v ∷ []

-- multiplies each component of a point by that of v
abbrev pub scaling : Vec3 → Rows
scaling v =
    (v.x ∷ pos 0 ∷ pos 0 ∷ [])
    ∷ (pos 0 ∷ v.y ∷ pos 0 ∷ [])
    ∷ (pos 0 ∷ pos 0 ∷ v.z ∷ [])
    ∷ origin
    ∷ []

-- what an op does to points; a turn about the three axes turns about x first and about z last
unfoldable pub op_matrix : Op → Rows
op_matrix (Translate v) = translation v
op_matrix (Scale v) = scaling v
op_matrix (Rotate axis k) = turns axis (k % 4)
op_matrix (RotateXyz a b c) = product (product (turns X (a % 4)) (turns Y (b % 4))) (turns Z (c % 4))
op_matrix (Transform m) = m
