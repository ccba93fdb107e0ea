use Rattle.std.proofs.Common.{◌≡◌, ◌+◌, ◌*◌, ◌^◌, false}
use Rattle.hd_picture.specs.Limits.{IsWithin}
use Rattle.hd_picture.specs.inner.EdgeStepping.{AreEdgeValues}
use Rattle.hd_picture.specs.inner.Window.{pixel_center_at}
use Rattle.hd_picture.proofs.TileLemmas.{AreRowsRasterized}
use Rattle.hd_picture.proofs.raster.rasterize.rasterize_rows.Given as goal

-- the rows so far have one more triangle, the others are as before, and the values are those of the next row
abbrev pub invariant-loop-row : goal.invariant-loop-row
invariant-loop-row l = record {
  values : AreEdgeValues l.eye l.tri l.setup.area (pixel_center_at l.fn.window 0 l.row) l.at;
  reach : IsWithin (2 ^ 60 + l.row * 2 ^ 56) l.at.depth.whole;
  rows : AreRowsRasterized l.eye l.fn.window l.tri l.row l.fn.depth_buffer l.depth_buffer;
  unchanged : l.changed ≡ false → l.depth_buffer ≡ l.fn.depth_buffer;
}
