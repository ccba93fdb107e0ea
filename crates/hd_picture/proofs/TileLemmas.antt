-- The pixels of a tile.
use Rattle.std.proofs.Common.{◌≡◌, ℕ, ◌+◌, ◌*◌, ◌/◌, ◌%◌, ◌<◌, ◌≤◌, ◌^◌, arith, pos, neg_ℤ, ap, ◌∙◌, refl, sym, Bool, true, false, ℤ, ◌≤ℤ◌, None, cond, ◌&&◌, List, length, get_or, get_or-set_other, get_or-set_same, replicate, slice_set, Option, ◌≢◌, ◌<ℤ◌, map, nat_lt, slice_index_or, take}
use Rattle.std.specs.Int.{div_ceil}
use Rattle.std.specs.List.{range_with_len}
use Rattle.std.proofs.lemmas.List.FromFn.{fill_by_all}
use Rattle.std.proofs.lemmas.List.{get_or-replicate, get_or_default}
use Rattle.hd_num.specs.declared.vector.Rgb.{Rgb}
use Rattle.hd_picture.specs.declared.draws.Draws.{Draws}
use Rattle.hd_picture.specs.declared.draws.WorldTri.{WorldTri}
use Rattle.hd_picture.specs.declared.define.pixels.Fragment.{Fragment}
use Rattle.hd_picture.specs.Laws.{mirror_image}
use Rattle.hd_picture.specs.Limits.{IsTriWithin}
use Rattle.hd_picture.specs.define.Coverage.{covers, screen_weights, total}
use Rattle.hd_picture.specs.define.Pixels.{black, fragment, fragments, nearest}
use Rattle.hd_picture.specs.define.View.{screen_point}
use Rattle.hd_picture.specs.inner.Bounds.{AreDisjoint, IsInTileBounds, IsOutsideTile}
use Rattle.hd_picture.specs.inner.Depth.{max_depth}
use Rattle.hd_picture.specs.inner.DepthBuffer.{IsMinDepth, IsRasterized, IsRowRasterized, background, color_in, depth_test, or_background}
use Rattle.hd_picture.specs.inner.Pixels.{nearer}
use Rattle.hd_picture.specs.inner.View.{IsScreenTriangle}
use Rattle.hd_picture.specs.inner.Window.{tile_pixel_center, window}
use Rattle.hd_picture.specs.raster.Tiles.{pixel_or_black, tile}
use Rattle.hd_picture.proofs.DepthTests.{color_or_background, depth_test_below, depth_test_nearest}
use Rattle.hd_picture.proofs.PixelLemmas.{nearest_step, none_outside, pixel_is}
use Rattle.hd_picture.proofs.CornerOrder.{covers_apart, mirror_image_shows_the_same}
use Rattle.hd_picture.proofs.CoverageLemmas.{fragment_none}
use Rattle.hd_picture.proofs.Offsets.{total-same}
use Rattle.hd_picture.specs.declared.define.coverage.Weights.{Weights}
use Rattle.std.proofs.lemmas.Int.{by_lt_z, clamps, ints}
use Rattle.std.specs.Int.{int_max, int_min}
use Rattle.hd_num.specs.declared.vector.Vec3.{Vec3}
use Rattle.hd_picture.specs.declared.define.view.ScreenTriangle.{ScreenTriangle}
use Rattle.hd_picture.specs.declared.define.view.ScreenPoint.{ScreenPoint}
use Rattle.hd_picture.specs.declared.raster.window.Window.{Window}

-- the nearest of all triangles gives a tile's pixel its color
pub color_is : (draws : Draws) (n k : ℕ) (tris : List WorldTri) (i : ℕ) (held : Fragment) → tris ≡ draws.tris → length tris ≤ i
    → held ≡ or_background (nearest (fragments draws.eye (tile_pixel_center (window draws n) k) (take i tris)))
    → color_in (window draws n) k held ≡ pixel_or_black draws (n % div_ceil draws.width 16 * 16 + k % 16) (n / div_ceil draws.width 16 * 16 + k / 16)
unfolding pixel_or_black
color_is draws n k tris i held e all each =
    let x = n % div_ceil draws.width 16 * 16 + k % 16 in
    let y = n / div_ceil draws.width 16 * 16 + k / 16 in
    let best = nearest (fragments draws.eye (tile_pixel_center (window draws n) k) (take i tris)) in
    ap (λ visible_color. cond (nat_lt x draws.width && nat_lt y draws.height) visible_color black)
    (ap (λ (f : Fragment). f.color) each ∙ color_or_background best ∙ pixel_is draws x y (tile_pixel_center (window draws n) k) tris i best refl e all refl)

-- one more triangle of the list
pub depth_test_step : (eye : Vec3) (q : ScreenPoint) (tris : List WorldTri) (i : ℕ) (d : WorldTri) (held next : Fragment)
    → next ≡ depth_test held (fragment eye q (get_or tris i d)) → i < length tris → IsTriWithin (2 ^ 24) (get_or tris i d)
    → held ≡ or_background (nearest (fragments eye q (take i tris))) → next ≡ or_background (nearest (fragments eye q (take (i + 1) tris)))
depth_test_step eye q tris i d held next e l near before =
    let best = nearest (fragments eye q (take i tris)) in
    e ∙ ap (λ (f : Fragment). depth_test f (fragment eye q (get_or tris i d))) before
    ∙ depth_test_nearest best eye q (get_or tris i d) near
    ∙ ap or_background (nearest_step {best = best} {next = nearer best (fragment eye q (get_or tris i d))} eye q tris i d refl l refl)

-- a triangle below all of a tile's fragments changes none
pub rasterized_below : (depth_buffer : List Fragment) (min_depth : ℤ) (eye : Vec3) (w : Window) (tri : WorldTri)
    → IsMinDepth depth_buffer min_depth → max_depth tri ≤ℤ min_depth → IsRasterized eye w tri depth_buffer depth_buffer
rasterized_below depth_buffer min_depth eye w tri f b = λ k h.
    let l = f.at_most k h in
    sym (depth_test_below (slice_index_or depth_buffer k background) eye (tile_pixel_center w k) tri (omega (arith, ints)))

-- nor does one that is not seen at any of its pixels
pub rasterized_nowhere : (depth_buffer : List Fragment) (eye : Vec3) (w : Window) (tri : WorldTri)
    → ((k : ℕ) → k < 256 → fragment eye (tile_pixel_center w k) tri ≡ None) → IsRasterized eye w tri depth_buffer depth_buffer
rasterized_nowhere depth_buffer eye w tri none = λ k h. sym (ap (depth_test (slice_index_or depth_buffer k background)) (none k h))

pub center_in_bounds : (w : Window) (k : ℕ) → k < 256 → IsInTileBounds (tile_pixel_center w k) (tile_pixel_center w 0) (tile_pixel_center w 255)
center_in_bounds w k h = record {
  left = omega (arith, ints);
  right = omega (arith, ints);
  bottom = omega (arith, ints);
  top = omega (arith, ints);
}

-- nor one beside the tile
pub rasterized_outside : (depth_buffer : List Fragment) (eye : Vec3) (w : Window) (tri : WorldTri) (screen : ScreenTriangle)
    → IsScreenTriangle eye tri screen → IsOutsideTile screen w → IsRasterized eye w tri depth_buffer depth_buffer
rasterized_outside depth_buffer eye w tri screen at beside =
    rasterized_nowhere depth_buffer eye w tri (λ k h. none_outside eye tri screen (tile_pixel_center w k) at (beside (tile_pixel_center w k) (center_in_bounds w k h)))

-- nor one without an area
pub rasterized_flat : (depth_buffer : List Fragment) (eye : Vec3) (w : Window) (tri : WorldTri) (p : ScreenPoint)
    → total (screen_weights eye tri p) ≡ pos 0 → IsRasterized eye w tri depth_buffer depth_buffer
rasterized_flat depth_buffer eye w tri p flat = rasterized_nowhere depth_buffer eye w tri (λ k h. fragment_none eye (tile_pixel_center w k) tri (uncovered (screen_weights eye tri (tile_pixel_center w k)) (same k)))
  where
    same : (k : ℕ) → total (screen_weights eye tri (tile_pixel_center w k)) ≡ pos 0
    same k = total-same (screen_point eye tri.a) (screen_point eye tri.b) (screen_point eye tri.c) p (tile_pixel_center w k) ∙ flat

    uncovered : (v : Weights) → total v ≡ pos 0 → covers v ≡ false
    uncovered v e = by (covers v) refl
      where
        by : (t : Bool) → covers v ≡ t → t ≡ false
        by true c = absurd (covers_apart v c e)
        by false c = refl

-- a triangle with its corners in the other order shows the same
pub rasterized_mirror_image : (old new : List Fragment) (eye : Vec3) (w : Window) (tri : WorldTri) → IsRasterized eye w (mirror_image tri) old new → IsRasterized eye w tri old new
rasterized_mirror_image old new eye w tri h = λ k l. h k l ∙ ap (depth_test (slice_index_or old k background)) (mirror_image_shows_the_same eye (tile_pixel_center w k) tri)

-- the rows above this one have one more triangle, and the others are as before
pub record AreRowsRasterized (eye : Vec3) (w : Window) (tri : WorldTri) (row : ℕ) (old new : List Fragment) : Type 0 where
  pub done : (k : ℕ) → k < row * 16 → slice_index_or new k background ≡ depth_test (slice_index_or old k background) (fragment eye (tile_pixel_center w k) tri)
  pub untouched : (k : ℕ) → row * 16 ≤ k → slice_index_or new k background ≡ slice_index_or old k background

-- where no triangle is seen
pub background_min : IsMinDepth (replicate 256 background) (neg_ℤ (pos (2 ^ 25)))
background_min = record {
  at_most = λ k h. let e = ap (λ (f : Fragment). f.depth) (get_or-replicate 256 k background background h) in omega (arith, ints);
  place = 0;
  in_tile = omega arith;
  reached = refl;
}

pub by_lt : {P : Type 0} (a b : ℕ) → (a < b → P) → (b ≤ a → P) → P
by_lt a b less most = by_lt_z (pos a) (pos b) (λ l. less (omega (arith, ints))) (λ l. most (omega (arith, ints)))

-- the least depth of a tile, among the first fragments and one that may come after them
pub record IsLeastOf (depth_buffer : List Fragment) (i : ℕ) (least : ℤ) : Type 0 where
  pub at_most : (k : ℕ) → k < i → least ≤ℤ (slice_index_or depth_buffer k background).depth
  pub place : ℕ
  pub in_tile : place < 256
  pub reached : (slice_index_or depth_buffer place background).depth ≡ least

pub least_first : (depth_buffer : List Fragment) (d : Fragment) (least : ℤ) → length depth_buffer ≡ 256 → least ≡ (get_or depth_buffer 0 d).depth → IsLeastOf depth_buffer 0 least
least_first depth_buffer d least len e =
    let l : 0 < length depth_buffer = omega arith in
    record {
      at_most = λ k h. absurd (omega arith);
      place = 0;
      in_tile = omega arith;
      reached = ap (λ (f : Fragment). f.depth) (get_or_default depth_buffer 0 background d l) ∙ sym e;
    }

pub least_more : (depth_buffer : List Fragment) (i : ℕ) (d : Fragment) (least next : ℤ) → length depth_buffer ≡ 256 → i < length depth_buffer
    → next ≡ int_min (get_or depth_buffer i d).depth least → IsLeastOf depth_buffer i least → IsLeastOf depth_buffer (i + 1) next
least_more depth_buffer i d least next len l e before =
    let same : (get_or depth_buffer i d).depth ≡ (slice_index_or depth_buffer i background).depth = ap (λ (f : Fragment). f.depth) (get_or_default depth_buffer i d background l) in
    by_lt_z (get_or depth_buffer i d).depth least
    (λ less.
    let n : next ≡ (get_or depth_buffer i d).depth = omega (arith, ints, clamps) in
    record {
      at_most = below n less same;
      place = i;
      in_tile = omega arith;
      reached = sym same ∙ sym n;
    })
    (λ more.
    let n : next ≡ least = omega (arith, ints, clamps) in
    record {
      at_most = above n more same;
      place = before.place;
      in_tile = before.in_tile;
      reached = before.reached ∙ sym n;
    })
  where
    below : next ≡ (get_or depth_buffer i d).depth → (get_or depth_buffer i d).depth <ℤ least → (get_or depth_buffer i d).depth ≡ (slice_index_or depth_buffer i background).depth → (k : ℕ) → k < i + 1 → next ≤ℤ (slice_index_or depth_buffer k background).depth
    below n less same = λ k h. by_lt k i
        (λ o. let m = before.at_most k o in omega (arith, ints))
        (λ o. let here : k ≡ i = omega arith in rw here (omega (arith, ints)))

    above : next ≡ least → least ≤ℤ (get_or depth_buffer i d).depth → (get_or depth_buffer i d).depth ≡ (slice_index_or depth_buffer i background).depth → (k : ℕ) → k < i + 1 → next ≤ℤ (slice_index_or depth_buffer k background).depth
    above n more same = λ k h. by_lt k i
        (λ o. let m = before.at_most k o in omega (arith, ints))
        (λ o. let here : k ≡ i = omega arith in rw here (omega (arith, ints)))

pub least_of_all : (depth_buffer : List Fragment) (i : ℕ) (least : ℤ) → 256 ≤ i → IsLeastOf depth_buffer i least → IsMinDepth depth_buffer least
least_of_all depth_buffer i least l h = record {
  at_most = λ k m. h.at_most k (omega arith);
  place = h.place;
  in_tile = h.in_tile;
  reached = h.reached;
}

-- one fragment of a tile is rasterized, and nothing else
pub record IsPixelRasterized (i : ℕ) (f : Option Fragment) (old new : List Fragment) : Type 0 where
  pub at_place : slice_index_or new i background ≡ depth_test (slice_index_or old i background) f
  pub elsewhere : (k : ℕ) → k ≢ i → slice_index_or new k background ≡ slice_index_or old k background

pub pixel_set : (i : ℕ) (f : Option Fragment) (g : Fragment) (old new : List Fragment) → i < length old → new ≡ slice_set old i g
    → g ≡ depth_test (slice_index_or old i background) f → IsPixelRasterized i f old new
pixel_set i f g old new l e h = record {
  at_place = rw e (rw get_or-set_same h);
  elsewhere = λ k ne. rw e (rw get_or-set_other refl);
}

pub pixel_kept : (i : ℕ) (f : Option Fragment) (old new : List Fragment) → new ≡ old → slice_index_or old i background ≡ depth_test (slice_index_or old i background) f → IsPixelRasterized i f old new
pixel_kept i f old new e h = record { at_place = rw e h; elsewhere = λ k ne. rw e }

-- a range that is apart from that of three numbers, and does not begin above it, ends below it
pub disjoint_below : (a b c least most : ℤ) → least ≤ℤ most → least ≤ℤ int_max a (int_max b c) → AreDisjoint a b c least most → most <ℤ int_min a (int_min b c)
disjoint_below a b c least most h k apart =
    let low = int_min a (int_min b c) in
    by_lt_z most low
    (λ l. l)
    (λ l. absurd (apart (int_max least low) (omega (arith, ints, clamps)) (omega (arith, ints, clamps)) (record { least = omega (arith, ints, clamps); greatest = omega (arith, ints, clamps) })))

pub rows_more : (eye : Vec3) (w : Window) (tri : WorldTri) (row : ℕ) (old now next : List Fragment)
    → AreRowsRasterized eye w tri row old now → IsRowRasterized eye w tri row now next → AreRowsRasterized eye w tri (row + 1) old next
rows_more eye w tri row old now next before this = record {
  done = λ k h. by_lt k (row * 16)
      (λ l. this.above k l ∙ before.done k l)
      (λ l. this.rasterized k l (omega arith) ∙ ap (λ (held : Fragment). depth_test held (fragment eye (tile_pixel_center w k) tri)) (before.untouched k l));
  untouched = λ k h. this.below k (omega arith) ∙ before.untouched k (omega arith);
}

pub tile_is : (draws : Draws) (n columns : ℕ) (block : List Rgb) → columns ≡ div_ceil draws.width 16 → length block ≡ 256
    → ((k : ℕ) → k < 256 → slice_index_or block k black ≡ pixel_or_black draws (n % columns * 16 + k % 16) (n / columns * 16 + k / 16))
    → block ≡ tile draws n
unfolding tile
tile_is draws n columns block e len each =
    fill_by_all (λ i. pixel_or_black draws (n % columns * 16 + i % 16) (n / columns * 16 + i / 16)) block 256 black len each
    ∙ ap (λ m. map (λ i. pixel_or_black draws (n % m * 16 + i % 16) (n / m * 16 + i / 16)) (range_with_len 0 256)) e
