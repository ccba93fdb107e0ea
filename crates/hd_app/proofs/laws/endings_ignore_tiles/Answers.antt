use Rattle.hd_app.proofs.Tiles.{endings_ignore_tiles}
use Rattle.hd_app.proofs.laws.endings_ignore_tiles.Goals as goal

pub returns : goal.returns
returns c = endings_ignore_tiles
