use Rattle.std.proofs.Common.{arith, rules, ◌≡◌, ◌∙◌, ap, refl, sym}
use Rattle.std.proofs.lemmas.Int.{ints, to_z-of_z}
use mir.Syntax.{w128}
use Rattle.hd_picture.specs.define.Coverage.{screen_weights, total}
use Rattle.hd_picture.specs.inner.Depth.{depth_sum}
use Rattle.hd_picture.specs.inner.Window.{pixel_center_at, tile_pixel_center}
use Rattle.hd_picture.specs.declared.define.coverage.Weights.{Weights}
use Rattle.hd_picture.proofs.PixelLemmas.{in_reach}
use Rattle.hd_picture.proofs.TriangleSetupLemmas.{area_of, area_read, first_weights, rasterized_far}
use Rattle.hd_picture.proofs.raster.rasterize.rasterize_counter_clockwise.Goals as goal

pub weights_at-weights-requires : goal.weights_at-weights-requires
weights_at-weights-requires c =
    in_reach c.args.eye c.args.tri.now c.args.screen c.tile_pixel_center.result c.requires.screen c.requires.eye c.requires.corners c.tile_pixel_center.ensures.near

pub depth_fraction-requires-clause-area : goal.depth_fraction-requires-clause-area
depth_fraction-requires-clause-area c =
    let w = c.weights_at-weights.result in
    let e : total w ≡ total (screen_weights c.args.eye c.args.tri.now (tile_pixel_center c.args.window 0)) =
    ap total (first_weights c.args.eye c.args.tri.now c.args.screen c.tile_pixel_center.result _ w c.requires.screen c.weights_at-weights.ensures.value c.tile_pixel_center.ensures.value) in
    let area = area_read w c.weights_at-weights.ensures.small in
    rw (area, e) c.requires.counter_clockwise

pub triangle_setup-setup-requires-clause-area : goal.triangle_setup-setup-requires-clause-area
triangle_setup-setup-requires-clause-area c =
    let w = c.weights_at-weights.result in
    let e = first_weights c.args.eye c.args.tri.now c.args.screen c.tile_pixel_center.result (tile_pixel_center c.args.window 0) w c.requires.screen c.weights_at-weights.ensures.value c.tile_pixel_center.ensures.value in
    let area = area_read w c.weights_at-weights.ensures.small in
    rw area (area_of c.args.eye c.args.tri.now (tile_pixel_center c.args.window 0) (total w) (sym (ap total e)))

pub triangle_setup-setup-requires-clause-counter_clockwise : goal.triangle_setup-setup-requires-clause-counter_clockwise
triangle_setup-setup-requires-clause-counter_clockwise c =
    let w = c.weights_at-weights.result in
    let e : total w ≡ total (screen_weights c.args.eye c.args.tri.now (tile_pixel_center c.args.window 0)) =
    ap total (first_weights c.args.eye c.args.tri.now c.args.screen c.tile_pixel_center.result _ w c.requires.screen c.weights_at-weights.ensures.value c.tile_pixel_center.ensures.value) in
    let area = area_read w c.weights_at-weights.ensures.small in
    rw (area, e) c.requires.counter_clockwise

pub triangle_setup-setup-requires-clause-most : goal.triangle_setup-setup-requires-clause-most
triangle_setup-setup-requires-clause-most c = omega (arith, ints)

pub rasterize_rows-requires-clause-start : goal.rasterize_rows-requires-clause-start
rasterize_rows-requires-clause-start c =
    let w = c.weights_at-weights.result in
    let e = first_weights c.args.eye c.args.tri.now c.args.screen c.tile_pixel_center.result (pixel_center_at c.args.window 0 0) w c.requires.screen c.weights_at-weights.ensures.value c.tile_pixel_center.ensures.value in
    let area = area_read w c.weights_at-weights.ensures.small in
    let sum = to_z-of_z w128 c.wide_sum.result (search rules) ∙ c.wide_sum.ensures.value in
    let quotient = rw (sum, area) at c.in-Some.ensures in
    let same : c.triangle_setup-setup.result.area ≡ total w = c.triangle_setup-setup.ensures.area ∙ area in
    record {
      weights = e;
      value = rw same (quotient.value ∙ ap (λ (v : Weights). depth_sum v c.args.tri.now) e);
      remainder = rw same quotient.remainder;
    }

pub returns-in-None-clause-rasterized : goal.returns-in-None-clause-rasterized
returns-in-None-clause-rasterized c =
    let w = c.weights_at-weights.result in
    let e = first_weights c.args.eye c.args.tri.now c.args.screen c.tile_pixel_center.result (tile_pixel_center c.args.window 0) w c.requires.screen c.weights_at-weights.ensures.value c.tile_pixel_center.ensures.value in
    let area = area_read w c.weights_at-weights.ensures.small in
    let sum = to_z-of_z w128 c.wide_sum.result (search rules) ∙ c.wide_sum.ensures.value in
    let all = total (screen_weights c.args.eye c.args.tri.now (tile_pixel_center c.args.window 0)) in
    rasterized_far c.args.eye c.args.window c.args.tri.now all c.requires.counter_clockwise
    (area_of c.args.eye c.args.tri.now (tile_pixel_center c.args.window 0) all refl) c.requires.corners
    (rw e at (rw (sum, area) at c.in-None.ensures)) c.args.depth_buffer.now
