use Rattle.hd_picture.proofs.CornerOrder.{mirror_image_shows_the_same, rotation_shows_the_same}
use Rattle.hd_picture.proofs.laws.corners_have_no_order.Goals as goal

pub returns-clause-rotation : goal.returns-clause-rotation
returns-clause-rotation c = rotation_shows_the_same

pub returns-clause-mirror_image : goal.returns-clause-mirror_image
returns-clause-mirror_image c = mirror_image_shows_the_same
