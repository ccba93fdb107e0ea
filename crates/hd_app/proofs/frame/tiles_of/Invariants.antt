use Rattle.std.proofs.Common.{◌≡◌, map}
use Rattle.std.specs.List.{range_with_len}
use Rattle.hd_picture.specs.raster.Tiles.{tile}
use Rattle.hd_app.proofs.frame.tiles_of.Given as goal

abbrev pub invariant-tiles : goal.invariant-tiles
invariant-tiles l = l.tiles.items ≡ map (tile l.draws) (range_with_len 0 l.n)
