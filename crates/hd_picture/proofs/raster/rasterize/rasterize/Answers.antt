use Rattle.std.proofs.Common.{rules, arith, refl, sym, subst, w64, ◌≡◌, ◌∙◌, List}
use Rattle.std.proofs.lemmas.Int.{ints, to_z-of_z}
use Rattle.hd_picture.specs.declared.define.pixels.Fragment.{Fragment}
use Rattle.hd_picture.specs.inner.Depth.{max_depth}
use Rattle.hd_picture.specs.inner.DepthBuffer.{IsMinDepth}
use Rattle.hd_picture.proofs.TileLemmas.{rasterized_below, rasterized_outside}
use Rattle.hd_picture.proofs.CrossProduct.{read}
use Rattle.hd_picture.proofs.raster.rasterize.rasterize.Goals as goal

pub returns-then-max_depth_of-min_depth-clause-rasterized : goal.returns-then-max_depth_of-min_depth-clause-rasterized
returns-then-max_depth_of-min_depth-clause-rasterized c =
    let most : read c.max_depth_of.result ≡ max_depth c.args.tri.now = to_z-of_z w64 c.max_depth_of.result (search rules) ∙ c.max_depth_of.ensures in
    let least : read c.args.min_depth ≡ c.args.min_depth = to_z-of_z w64 c.args.min_depth c.ranges.min_depth in
    let test = rw (most, least) at c.if-max_depth_of-min_depth.true in
    rasterized_below c.args.depth_buffer.now c.args.min_depth c.args.eye c.args.window c.args.tri.now c.requires.min_depth (omega (arith, ints, test))

pub returns-then-is_outside_tile-clause-rasterized : goal.returns-then-is_outside_tile-clause-rasterized
returns-then-is_outside_tile-clause-rasterized c =
    rasterized_outside c.args.depth_buffer.now c.args.eye c.args.window c.args.tri.now c.screen_triangle-screen.result c.screen_triangle-screen.ensures (c.if-is_outside_tile.ensures.0 refl)

pub returns-else-rasterize_screen_triangle-clause-min_depth : goal.returns-else-rasterize_screen_triangle-clause-min_depth
returns-else-rasterize_screen_triangle-clause-min_depth c =
    let least : read c.args.min_depth ≡ c.args.min_depth = to_z-of_z w64 c.args.min_depth c.ranges.min_depth in
    let same = c.rasterize_screen_triangle.ensures.unchanged c.if-rasterize_screen_triangle.false in
    rw least (subst (λ (depth_buffer : List Fragment). IsMinDepth depth_buffer c.args.min_depth) (sym same) c.requires.min_depth)
