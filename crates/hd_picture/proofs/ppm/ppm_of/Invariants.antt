use Rattle.std.proofs.Common.{◌≡◌, ◌++◌}
use Rattle.std.specs.List.{range_with_len, flat_map}
use Rattle.hd_picture.specs.Ppm.{ppm_head, pixel_bytes}
use Rattle.hd_picture.specs.raster.Tiles.{row_in_tiles}
use Rattle.hd_picture.proofs.ppm.ppm_of.Given as goal

abbrev pub invariant-rows : goal.invariant-rows
invariant-rows l = l.bytes.items ≡ ppm_head l.width l.height ++ flat_map pixel_bytes (flat_map (row_in_tiles l.width l.tiles) (range_with_len 0 l.y))
