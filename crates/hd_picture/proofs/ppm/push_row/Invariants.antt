use Rattle.std.proofs.Common.{◌≡◌, ◌++◌, map}
use Rattle.std.specs.Int.{div_ceil}
use Rattle.std.specs.List.{range_with_len, flat_map}
use Rattle.hd_picture.specs.Ppm.{pixel_bytes}
use Rattle.hd_picture.specs.raster.Tiles.{pixel_in_tiles}
use Rattle.hd_picture.proofs.ppm.push_row.Given as goal

abbrev pub invariant-columns : goal.invariant-columns
invariant-columns l =
    l.bytes.items ≡ l.fn.bytes.items ++ flat_map pixel_bytes (map (λ x. pixel_in_tiles (div_ceil l.width 16) l.tiles x l.y) (range_with_len 0 l.x))
