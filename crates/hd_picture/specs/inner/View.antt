-- A triangle as the eye sees it.
use Rattle.std.specs.Prelude.{◌≡◌}
use Rattle.hd_num.specs.declared.vector.Vec3.{Vec3}
use Rattle.hd_picture.specs.declared.define.view.ScreenTriangle.{ScreenTriangle}
use Rattle.hd_picture.specs.declared.draws.WorldTri.{WorldTri}
use Rattle.hd_picture.specs.define.View.{screen_point}

-- the corners of a triangle where the eye sees them
pub record IsScreenTriangle (eye : Vec3) (tri : WorldTri) (screen : ScreenTriangle) : Type 0 where
  pub at_a : screen.a ≡ screen_point eye tri.a
  pub at_b : screen.b ≡ screen_point eye tri.b
  pub at_c : screen.c ≡ screen_point eye tri.c
