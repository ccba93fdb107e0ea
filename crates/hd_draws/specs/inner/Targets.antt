-- Copies of targets of which it is known whether they have a prim in them.
use Rattle.std.specs.Prelude.{Bool, false, if◌then◌else◌, ℤ, pos, int_lt, nat_abs, List, slice_index_or, Option, None}
use Rattle.hd_num.specs.declared.vector.Vec3.{Vec3}
use Rattle.hd_num.specs.Matrices.{Rows}
use Rattle.hd_draws.specs.Placements.{copy_matrix}

-- whether the target of this number is marked
abbrev pub is_marked : List Bool → ℤ → Bool
is_marked marks number = if int_lt number (pos 0) then false else slice_index_or marks (nat_abs number) false

-- the copy at a position, where its target is marked and its matrix is in range
abbrev pub marked_copy : List Bool → (own instancer : Option Rows) → Vec3 × ℤ → Option Rows
marked_copy marks own instancer place = if is_marked marks place.1 then copy_matrix own place.0 instancer else None
