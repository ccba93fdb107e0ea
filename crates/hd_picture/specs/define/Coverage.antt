-- Which points of the picture a triangle covers.
use Rattle.std.specs.Prelude.{pos, ◌-ℤ◌, ◌*ℤ◌, Bool, ◌&&◌, ◌||◌, ℤ, ◌+ℤ◌, int_le, int_lt}
use Rattle.hd_num.specs.declared.vector.Vec3.{Vec3}
use Rattle.hd_picture.specs.declared.define.coverage.Weights.{Weights}
use Rattle.hd_picture.specs.declared.define.view.ScreenPoint.{ScreenPoint}
use Rattle.hd_picture.specs.declared.draws.WorldTri.{WorldTri}
use Rattle.hd_picture.specs.define.View.{screen_point}

-- the edge function: above 0 where q is left of the edge from a to b, 0 on its line, below 0 right of it
unfoldable pub edge : (a b q : ScreenPoint) → ℤ
edge a b q = (b.x -ℤ a.x) *ℤ (q.y -ℤ a.y) -ℤ (b.y -ℤ a.y) *ℤ (q.x -ℤ a.x)

-- how much each corner of a triangle counts at q
abbrev pub weights : (a b c q : ScreenPoint) → Weights
weights a b c q = record { a = edge b c q; b = edge c a q; c = edge a b q }

-- the same, of a triangle that an eye sees
abbrev pub screen_weights : Vec3 → WorldTri → ScreenPoint → Weights
screen_weights eye tri q = weights (screen_point eye tri.a) (screen_point eye tri.b) (screen_point eye tri.c) q

-- twice the area of the triangle between the doubled points of its corners, below 0 where its corners are clockwise
abbrev pub total : Weights → ℤ
total w = w.a +ℤ w.b +ℤ w.c

-- a whole number other than 0
abbrev pub is_nonzero : ℤ → Bool
is_nonzero z = int_lt z (pos 0) || int_lt (pos 0) z

-- the triangle has an area, and the point is on no outer side of an edge: edges and corners are covered
unfoldable pub covers : Weights → Bool
covers w =
    is_nonzero (total w)
    && (int_le (pos 0) w.a && int_le (pos 0) w.b && int_le (pos 0) w.c
    || int_le w.a (pos 0) && int_le w.b (pos 0) && int_le w.c (pos 0))
