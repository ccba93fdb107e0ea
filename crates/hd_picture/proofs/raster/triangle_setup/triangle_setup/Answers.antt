use Rattle.std.proofs.Common.{◌≡◌, w64}
use Rattle.std.proofs.lemmas.Int.{to_z-of_z}
use Rattle.hd_picture.proofs.CrossProduct.{read}
use Rattle.hd_picture.proofs.raster.triangle_setup.triangle_setup.Goals as goal

pub returns-clause-setup : goal.returns-clause-setup
returns-clause-setup c =
    let area : read c.args.area ≡ c.args.area = to_z-of_z w64 c.args.area c.ranges.area in
    let right = rw area at c.edge_step.ensures in
    let down = rw area at c.edge_step-2.ensures in
    rw area (record { area = c.requires.area; counter_clockwise = c.requires.counter_clockwise; most = c.requires.most; right = right; down = down })
