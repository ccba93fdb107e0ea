use Rattle.hd_picture.proofs.DepthTests.{beyond_shows_nothing}
use Rattle.hd_picture.proofs.laws.triangles_beyond_the_eye_are_unseen.Goals as goal

pub returns : goal.returns
returns c = beyond_shows_nothing
