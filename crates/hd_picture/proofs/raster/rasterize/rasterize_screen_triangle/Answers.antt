use Rattle.std.proofs.Common.{arith, ◌≡◌, ◌∙◌, ap, sym, pos}
use Rattle.std.proofs.lemmas.Int.{ints}
use Rattle.hd_picture.specs.define.Coverage.{screen_weights, total}
use Rattle.hd_picture.specs.inner.Window.{tile_pixel_center}
use Rattle.hd_picture.proofs.TileLemmas.{rasterized_flat, rasterized_mirror_image}
use Rattle.hd_picture.proofs.PixelLemmas.{in_reach}
use Rattle.hd_picture.proofs.TriangleSetupLemmas.{area_read, first_weights, total-mirror_image}
use Rattle.hd_picture.proofs.raster.rasterize.rasterize_screen_triangle.Goals as goal

pub weights_at-weights-requires : goal.weights_at-weights-requires
weights_at-weights-requires c =
    in_reach c.args.eye c.args.tri.now c.args.screen c.tile_pixel_center.result c.requires.screen c.requires.eye c.requires.corners c.tile_pixel_center.ensures.near

pub rasterize_counter_clockwise-requires-clause-counter_clockwise : goal.rasterize_counter_clockwise-requires-clause-counter_clockwise
rasterize_counter_clockwise-requires-clause-counter_clockwise c =
    let w = c.weights_at-weights.result in
    let e : total w ≡ total (screen_weights c.args.eye c.args.tri.now (tile_pixel_center c.args.window 0)) =
    ap total (first_weights c.args.eye c.args.tri.now c.args.screen c.tile_pixel_center.result _ w c.requires.screen c.weights_at-weights.ensures.value c.tile_pixel_center.ensures.value) in
    let area = area_read w c.weights_at-weights.ensures.small in
    let t = c.if-area-gt0.true in
    rw (sym e) (omega (arith, ints))

pub returns-then-area-eq0-clause-rasterized : goal.returns-then-area-eq0-clause-rasterized
returns-then-area-eq0-clause-rasterized c =
    let w = c.weights_at-weights.result in
    let e : total w ≡ total (screen_weights c.args.eye c.args.tri.now (tile_pixel_center c.args.window 0)) =
    ap total (first_weights c.args.eye c.args.tri.now c.args.screen c.tile_pixel_center.result _ w c.requires.screen c.weights_at-weights.ensures.value c.tile_pixel_center.ensures.value) in
    let area = area_read w c.weights_at-weights.ensures.small in
    let t = c.if-area-eq0.true in
    let none : total w ≡ pos 0 = omega (arith, ints) in
    rasterized_flat c.args.depth_buffer.now c.args.eye c.args.window c.args.tri.now (tile_pixel_center c.args.window 0) (sym e ∙ none)

pub rasterize_counter_clockwise-requires-2-clause-counter_clockwise : goal.rasterize_counter_clockwise-requires-2-clause-counter_clockwise
rasterize_counter_clockwise-requires-2-clause-counter_clockwise c =
    let w = c.weights_at-weights.result in
    let e : total w ≡ total (screen_weights c.args.eye c.args.tri.now (tile_pixel_center c.args.window 0)) =
    ap total (first_weights c.args.eye c.args.tri.now c.args.screen c.tile_pixel_center.result _ w c.requires.screen c.weights_at-weights.ensures.value c.tile_pixel_center.ensures.value) in
    let area = area_read w c.weights_at-weights.ensures.small in
    let t = c.if-area-gt0.false in
    let u = c.if-area-eq0.false in
    rw (total-mirror_image c.args.eye c.args.tri.now (tile_pixel_center c.args.window 0), sym e) (omega (arith, ints))

pub returns-clause-rasterized : goal.returns-clause-rasterized
returns-clause-rasterized c = rasterized_mirror_image c.args.depth_buffer.now c.rasterize_counter_clockwise-2.new.depth_buffer c.args.eye c.args.window c.args.tri.now c.rasterize_counter_clockwise-2.ensures.rasterized
