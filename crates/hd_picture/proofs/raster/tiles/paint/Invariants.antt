use Rattle.std.proofs.Common.{◌≡◌, ℕ, ◌<◌, slice_index_or}
use Rattle.hd_picture.specs.define.Pixels.{black}
use Rattle.hd_picture.specs.inner.DepthBuffer.{background, color_in}
use Rattle.hd_picture.proofs.raster.tiles.paint.Given as goal

-- the pixels so far
abbrev pub invariant-loop-i : goal.invariant-loop-i
invariant-loop-i l = (k : ℕ) → k < l.i → slice_index_or l.block k black ≡ color_in l.window k (slice_index_or l.depth_buffer k background)
