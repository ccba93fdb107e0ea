use Rattle.std.specs.Int.{div_ceil}
use Rattle.hd_picture.specs.Ppm.{pixel_bytes}
use Rattle.hd_picture.specs.raster.Tiles.{pixel_in_tiles}
use Rattle.hd_picture.proofs.Rows.{bytes_of_row}
use Rattle.hd_picture.proofs.ppm.push_row.Goals as goal

pub columns-preserved : goal.columns-preserved
columns-preserved c =
    rw (c.in_ok-extend_from_slice.ensures.items, c.columns.invariant, c.pixel_in_tiles-pixel.ensures, c.div_ceil-columns.ensures)
    (bytes_of_row pixel_bytes (λ x. pixel_in_tiles (div_ceil c.args.width 16) c.args.tiles.now x c.args.y) c.args.bytes.now.items c.columns.x)
