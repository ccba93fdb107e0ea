use Rattle.hd_picture.proofs.PixelsInTiles.{is_in_tile}
use Rattle.hd_picture.proofs.laws.tiles_make_the_picture.Goals as goal

pub returns : goal.returns
returns c = is_in_tile
