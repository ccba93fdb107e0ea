use Rattle.std.proofs.Common.{◌/◌, ◌<◌, arith}
use Rattle.std.specs.Int.{div_ceil}
use Rattle.hd_picture.specs.Ppm.{ppm_head, pixel_bytes}
use Rattle.hd_picture.specs.raster.Tiles.{row_in_tiles}
use Rattle.hd_picture.proofs.PictureFiles.{row_within}
use Rattle.hd_picture.proofs.Rows.{bytes_of_rows}
use Rattle.hd_picture.proofs.ppm.ppm_of.Goals as goal

pub push_row-requires-clause-there : goal.push_row-requires-clause-there
push_row-requires-clause-there c =
    let row : c.rows.y / 16 < div_ceil c.args.height 16 = omega arith in
    let within = row_within (div_ceil c.args.width 16) (div_ceil c.args.height 16) (c.rows.y / 16) row in
    omega (arith, within, c.requires.whole)

pub rows-preserved : goal.rows-preserved
rows-preserved c =
    rw (c.in_ok-push_row.ensures, c.rows.invariant)
    (bytes_of_rows pixel_bytes (row_in_tiles c.args.width c.args.tiles.now) (ppm_head c.args.width c.args.height) c.rows.y)
