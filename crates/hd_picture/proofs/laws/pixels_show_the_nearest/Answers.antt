use Rattle.hd_picture.proofs.NearestLemmas.{shows_first_nearest}
use Rattle.hd_picture.proofs.laws.pixels_show_the_nearest.Goals as goal

pub returns : goal.returns
returns c = shows_first_nearest
