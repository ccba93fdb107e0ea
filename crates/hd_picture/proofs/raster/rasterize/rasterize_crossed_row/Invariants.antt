use Rattle.std.proofs.Common.{◌≡◌, ℕ, ◌+◌, ◌*◌, ◌^◌, ◌<◌, ◌≤◌, false, slice_index_or}
use Rattle.hd_picture.specs.Limits.{IsWithin}
use Rattle.hd_picture.specs.define.Pixels.{fragment}
use Rattle.hd_picture.specs.inner.DepthBuffer.{background, depth_test}
use Rattle.hd_picture.specs.inner.EdgeStepping.{AreEdgeValues}
use Rattle.hd_picture.specs.inner.Window.{pixel_center_at, tile_pixel_center}
use Rattle.hd_picture.proofs.raster.rasterize.rasterize_crossed_row.Given as goal

-- the row's pixels so far have one more triangle, the others are as before, and the values are those of the next one
abbrev pub invariant-loop-x : goal.invariant-loop-x
invariant-loop-x l = record {
  values : AreEdgeValues l.eye l.tri l.setup.area (pixel_center_at l.fn.window l.x l.row) l.at;
  reach : IsWithin (2 ^ 61 + l.x * 2 ^ 56) l.at.depth.whole;
  done : (k : ℕ) → l.row * 16 ≤ k → k < l.row * 16 + l.x → slice_index_or l.depth_buffer k background ≡ depth_test (slice_index_or l.fn.depth_buffer k background) (fragment l.eye (tile_pixel_center l.fn.window k) l.tri);
  above : (k : ℕ) → k < l.row * 16 → slice_index_or l.depth_buffer k background ≡ slice_index_or l.fn.depth_buffer k background;
  untouched : (k : ℕ) → l.row * 16 + l.x ≤ k → slice_index_or l.depth_buffer k background ≡ slice_index_or l.fn.depth_buffer k background;
  unchanged : l.changed ≡ false → l.depth_buffer ≡ l.fn.depth_buffer;
}
