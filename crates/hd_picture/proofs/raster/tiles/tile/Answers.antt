use Rattle.std.proofs.Common.{arith, rules, ◌≡◌, ◌∙◌, ap, length, refl, sym, w64}
use Rattle.std.proofs.lemmas.Int.{to_z-of_z}
use Rattle.std.proofs.lemmas.List.{get_or-replicate}
use Rattle.hd_picture.specs.inner.DepthBuffer.{background, or_background}
use Rattle.hd_picture.specs.inner.Window.{tile_pixel_center}
use Rattle.hd_picture.proofs.TileLemmas.{depth_test_step, color_is, background_min, tile_is}
use Rattle.hd_picture.proofs.CrossProduct.{read}
use Rattle.hd_picture.proofs.NearestLemmas.{nearest-nil}
use Rattle.hd_picture.proofs.raster.tiles.tile.Goals as goal

pub loop-tri-init : goal.loop-tri-init
loop-tri-init c = record {
  nearest_of = λ k h. get_or-replicate 256 k background background h ∙ sym (ap or_background nearest-nil);
  min_depth = background_min;
}

pub loop-tri-preserved : goal.loop-tri-preserved
loop-tri-preserved c =
    let least : read c.rasterize-min_depth.result ≡ c.rasterize-min_depth.result = to_z-of_z w64 c.rasterize-min_depth.result (search rules) in
    record {
      nearest_of = λ k h.
          depth_test_step c.args.draws.now.eye (tile_pixel_center c.window_of-window.result k) c.items-tris.result.now c.loop-tri.tri-index _ _ _
          (c.rasterize-min_depth.ensures.rasterized k h) c.loop-tri-test.true (rw c.items-tris.ensures (c.requires.drawable.corners _ _ (rw (sym c.items-tris.ensures) c.loop-tri-test.true))) (c.loop-tri.invariant.nearest_of k h);
      min_depth = rw least c.rasterize-min_depth.ensures.min_depth;
    }

pub returns : goal.returns
returns c =
    let whole : length c.paint.new.block ≡ 256 = omega arith in
    let at = c.window_of-window.ensures.value in
    tile_is c.args.draws.now c.args.n _ c.paint.new.block refl whole
    (λ k h.
    (rw at at (c.paint.ensures k h))
    ∙ color_is c.args.draws.now c.args.n k c.items-tris.result.now c.loop-tri.tri-index _ c.items-tris.ensures c.loop-tri-test.false (rw at at (c.loop-tri.invariant.nearest_of k h)))
