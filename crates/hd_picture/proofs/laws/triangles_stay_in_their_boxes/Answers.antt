use Rattle.hd_picture.specs.define.View.{screen_point}
use Rattle.hd_picture.proofs.BoundsLemmas.{covers_in_bounds}
use Rattle.hd_picture.proofs.laws.triangles_stay_in_their_boxes.Goals as goal

pub returns : goal.returns
returns c = λ eye q tri h. covers_in_bounds (screen_point eye tri.a) (screen_point eye tri.b) (screen_point eye tri.c) q h
