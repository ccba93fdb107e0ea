-- The nearest fragment, one triangle after another.
use Rattle.std.specs.Prelude.{Bool, ℤ, int_le, if◌then◌else◌, Option, Some, None, false}
use Rattle.hd_picture.specs.declared.define.coverage.Weights.{Weights}
use Rattle.hd_picture.specs.declared.define.pixels.Fragment.{Fragment}
use Rattle.hd_picture.specs.declared.draws.WorldTri.{WorldTri}
use Rattle.hd_picture.specs.define.Depth.{depth}

-- what a triangle shows at a point that it covers
abbrev pub fragment_by : Weights → WorldTri → (eye_z : ℤ) → Option Fragment
fragment_by w tri eye_z =
    if int_le (depth w tri) eye_z
    then Some (record { depth = depth w tri; color = tri.color })
    else None

-- a fragment of this depth is not nearer than the best
abbrev pub hides : Option Fragment → (depth : ℤ) → Bool
hides None depth = false
hides (Some best) depth = int_le depth best.depth

-- `nearest` with one more fragment, or none, after the others
abbrev pub nearer : Option Fragment → Option Fragment → Option Fragment
nearer best None = best
nearer best (Some f) = if hides best f.depth then best else Some f
