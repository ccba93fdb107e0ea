use Rattle.std.proofs.Common.{arith, ◌≡◌, ◌∙◌, sym}
use Rattle.std.proofs.lemmas.Int.{ints}
use Rattle.hd_picture.proofs.CrossProduct.{read}
use Rattle.hd_picture.proofs.PixelLemmas.{in_reach, none_uncovered, fragment_is_by}
use Rattle.hd_picture.proofs.define.pixels.fragment_at.Goals as goal

pub weights_at-requires : goal.weights_at-requires
weights_at-requires c =
    in_reach c.args.eye c.args.tri.now c.screen_triangle-screen.result c.args.q c.screen_triangle-screen.ensures c.requires.eye c.requires.corners c.requires.point

pub returns-in-Some : goal.returns-in-Some
returns-in-Some c =
    let e = fragment_is_by c.args.eye c.args.tri.now c.screen_triangle-screen.result c.args.q c.screen_triangle-screen.ensures c.weights_at.result c.in-Some.w c.weights_at.ensures.value c.in-Some.ensures in
    let z : read c.args.eye.z ≡ c.args.eye.z = omega (arith, ints) in
    (rw z at c.fragment_by.ensures) ∙ sym e

pub returns-in-None : goal.returns-in-None
returns-in-None c =
    sym (none_uncovered c.args.eye c.args.tri.now c.screen_triangle-screen.result c.args.q c.screen_triangle-screen.ensures c.weights_at.result c.weights_at.ensures.value c.in-None.ensures)
