use Rattle.std.proofs.Common.{arith, ◌≡◌, ◌+ℤ◌, w64}
use Rattle.std.proofs.lemmas.Int.{ints, to_z-of_z}
use Rattle.hd_picture.proofs.CrossProduct.{read}
use Rattle.hd_picture.proofs.raster.edge_stepping.next_edge_values.Goals as goal

pub returns-clause-weights : goal.returns-clause-weights
returns-clause-weights c =
    let at = c.args.at.weights in
    let step = c.args.step.weights in
    let h = c.requires.at.weights in
    let k = c.requires.step.weights in
    let a : read (read at.a +ℤ read step.a) ≡ at.a +ℤ step.a = omega (arith, ints) in
    let b : read (read at.b +ℤ read step.b) ≡ at.b +ℤ step.b = omega (arith, ints) in
    let d : read (read at.c +ℤ read step.c) ≡ at.c +ℤ step.c = omega (arith, ints) in
    rw (a, b, d)

pub returns-clause-depth : goal.returns-clause-depth
returns-clause-depth c =
    let area = to_z-of_z w64 c.args.area c.ranges.area in
    rw area at c.next_fraction.ensures
