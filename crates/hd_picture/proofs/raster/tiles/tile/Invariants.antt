use Rattle.std.proofs.Common.{◌≡◌, ℕ, ◌<◌, slice_index_or, take}
use Rattle.hd_picture.specs.define.Pixels.{fragments, nearest}
use Rattle.hd_picture.specs.inner.DepthBuffer.{IsMinDepth, background, or_background}
use Rattle.hd_picture.specs.inner.Window.{tile_pixel_center}
use Rattle.hd_picture.proofs.raster.tiles.tile.Given as goal

-- each pixel's nearest of the triangles so far, and the least depth of them all
abbrev pub invariant-loop-tri : goal.invariant-loop-tri
invariant-loop-tri l = record {
  nearest_of : (k : ℕ) → k < 256 → slice_index_or l.depth_buffer k background ≡ or_background (nearest (fragments l.draws.eye (tile_pixel_center l.window k) (take l.tri-index l.tris)));
  min_depth : IsMinDepth l.depth_buffer l.min_depth;
}
