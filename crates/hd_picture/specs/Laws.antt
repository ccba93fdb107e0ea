-- What follows from the definitions.
use Rattle.std.specs.Prelude.{◌≡◌, ℕ, ◌+◌, ◌*◌, ◌/◌, ◌%◌, ◌<◌, List, [], ◌∷◌, ◌++◌, length, None, IsTrue, ◌≢◌, ◌⊎◌, ℤ, pos, ◌+ℤ◌, ◌*ℤ◌, neg_ℤ, ◌≤ℤ◌, ◌<ℤ◌, slice_index_or}
use Rattle.std.specs.Int.{div_ceil, int_max, int_min}
use Rattle.hd_num.specs.declared.vector.Vec3.{Vec3}
use Rattle.hd_picture.specs.declared.draws.Draws.{Draws}
use Rattle.hd_picture.specs.declared.draws.WorldTri.{WorldTri}
use Rattle.hd_picture.specs.declared.define.coverage.Weights.{Weights}
use Rattle.hd_picture.specs.declared.define.pixels.Fragment.{Fragment}
use Rattle.hd_picture.specs.declared.define.view.ScreenPoint.{ScreenPoint}
use Rattle.hd_picture.specs.define.Coverage.{covers, edge, screen_weights, total, weights}
use Rattle.hd_picture.specs.define.Depth.{depth, floor_div}
use Rattle.hd_picture.specs.define.Pixels.{black, fragment, fragments, pixel, visible_color}
use Rattle.hd_picture.specs.define.View.{screen_point}
use Rattle.hd_picture.specs.raster.Bounds.{IsBetween, IsInBounds}
use Rattle.hd_picture.specs.raster.Tiles.{tile, tile_count}

-- the quotient rounded down is the greatest whole number at most n / d, and does not change where both signs do
pub record RoundsDown (n d : ℤ) : Type 0 where
  pub at_most : pos 0 <ℤ d → (d *ℤ floor_div n d) ≤ℤ n
  pub greatest : pos 0 <ℤ d → n <ℤ (d *ℤ (floor_div n d +ℤ pos 1))
  pub both_signs : d ≢ pos 0 → floor_div (neg_ℤ n) (neg_ℤ d) ≡ floor_div n d

abbrev pub EachRoundsDown : Type 0
EachRoundsDown = (n d : ℤ) → RoundsDown n d

-- the depth at a point that a triangle covers is between those of its corners
abbrev pub DepthsStayBetween : Type 0
DepthsStayBetween = (w : Weights) (tri : WorldTri) → IsTrue (covers w) → IsBetween tri.a.z tri.b.z tri.c.z (depth w tri)

-- the depth of a flat triangle is that of its corners
abbrev pub FlatHasOneDepth : Type 0
FlatHasOneDepth = (w : Weights) (tri : WorldTri) → tri.a.z ≡ tri.b.z → tri.b.z ≡ tri.c.z → IsTrue (covers w) → depth w tri ≡ tri.a.z

-- a triangle whose corners are all beyond the eye shows nothing
abbrev pub BeyondShowsNothing : Type 0
BeyondShowsNothing = (eye : Vec3) (q : ScreenPoint) (tri : WorldTri)
    → eye.z <ℤ tri.a.z → eye.z <ℤ tri.b.z → eye.z <ℤ tri.c.z → fragment eye q tri ≡ None

-- the triangle from its next corner on, and with its corners in the other order
abbrev pub rotation : WorldTri → WorldTri
rotation tri = record tri { a = tri.b; b = tri.c; c = tri.a }

abbrev pub mirror_image : WorldTri → WorldTri
mirror_image tri = record tri { b = tri.c; c = tri.b }

abbrev pub RotationShowsTheSame : Type 0
RotationShowsTheSame = (eye : Vec3) (q : ScreenPoint) (tri : WorldTri) → fragment eye q (rotation tri) ≡ fragment eye q tri

abbrev pub MirrorImageShowsTheSame : Type 0
MirrorImageShowsTheSame = (eye : Vec3) (q : ScreenPoint) (tri : WorldTri) → fragment eye q (mirror_image tri) ≡ fragment eye q tri

-- q is within the bounds of an edge's ends
pub record IsInEdgeBounds (a b q : ScreenPoint) : Type 0 where
  pub left : int_min a.x b.x ≤ℤ q.x
  pub right : q.x ≤ℤ int_max a.x b.x
  pub bottom : int_min a.y b.y ≤ℤ q.y
  pub top : q.y ≤ℤ int_max a.y b.y

-- what a triangle covers is in the bounds of its corners
abbrev pub CoversInBounds : Type 0
CoversInBounds = (eye : Vec3) (q : ScreenPoint) (tri : WorldTri) → IsTrue (covers (screen_weights eye tri q))
    → IsInBounds (screen_point eye tri.a) (screen_point eye tri.b) (screen_point eye tri.c) q

-- a triangle with an area covers its edges, so that two triangles with an edge in common leave no gap there
abbrev pub CoversEdges : Type 0
CoversEdges = (eye : Vec3) (q : ScreenPoint) (tri : WorldTri)
    → total (screen_weights eye tri q) ≢ pos 0
    → edge (screen_point eye tri.a) (screen_point eye tri.b) q ≡ pos 0
    → IsInEdgeBounds (screen_point eye tri.a) (screen_point eye tri.b) q
    → IsTrue (covers (screen_weights eye tri q))

-- a triangle's weights have the same sum at each point: the edge function of ab at c, above 0 where the corners are counter-clockwise
abbrev pub WeightsAddUp : Type 0
WeightsAddUp = (a b c q : ScreenPoint) → total (weights a b c q) ≡ edge a b c

-- of two triangles abc and acd one covers what is on no outer side of ab, bc, cd and da; both cover only what is on the line of ac
pub record FitsAtEdge (a b c d q : ScreenPoint) : Type 0 where
  pub no_gap : pos 0 ≤ℤ edge a b q → pos 0 ≤ℤ edge b c q → pos 0 ≤ℤ edge c d q → pos 0 ≤ℤ edge d a q
      → IsTrue (covers (weights a b c q)) ⊎ IsTrue (covers (weights a c d q))
  pub no_overlap : IsTrue (covers (weights a b c q)) → IsTrue (covers (weights a c d q)) → edge a c q ≡ pos 0

-- two counter-clockwise triangles, on both sides of an edge
abbrev pub NeighboursFit : Type 0
NeighboursFit = (a b c d q : ScreenPoint) → pos 0 <ℤ edge a b c → pos 0 <ℤ edge a c d → FitsAtEdge a b c d q

-- a triangle that shows nothing at a point changes nothing there, wherever it is in the list
abbrev pub UnseenChangesNothing : Type 0
UnseenChangesNothing = (eye : Vec3) (q : ScreenPoint) (before after : List WorldTri) (tri : WorldTri)
    → fragment eye q tri ≡ None
    → fragments eye q (before ++ tri ∷ after) ≡ fragments eye q (before ++ after)

-- the fragment at index i is the one of `nearest`: none has a greater depth, and each before it a smaller one
pub record IsFirstNearest (fs : List Fragment) (i : ℕ) (f : Fragment) : Type 0 where
  pub place : i < length fs
  pub at_place : slice_index_or fs i f ≡ f
  pub greatest : (k : ℕ) → k < length fs → (slice_index_or fs k f).depth ≤ℤ f.depth
  pub first : (k : ℕ) → k < i → (slice_index_or fs k f).depth <ℤ f.depth

-- black where no fragment is, else the color of the one that hides all others
abbrev pub ShowsFirstNearest : Type 0
ShowsFirstNearest = (fs : List Fragment)
    → ((fs ≡ []) × (visible_color fs ≡ black))
    ⊎ ((i : ℕ) × (f : Fragment) × IsFirstNearest fs i f × (visible_color fs ≡ f.color))

-- the pixel in column x of row y is in one of the tiles
pub record IsInTile (draws : Draws) (x y : ℕ) : Type 0 where
  pub number : y / 16 * div_ceil draws.width 16 + x / 16 < tile_count draws.width draws.height
  pub color : slice_index_or (tile draws (y / 16 * div_ceil draws.width 16 + x / 16)) (y % 16 * 16 + x % 16) black ≡ pixel draws x y

abbrev pub TilesMakeThePicture : Type 0
TilesMakeThePicture = (draws : Draws) (x y : ℕ) → x < draws.width → y < draws.height → IsInTile draws x y
