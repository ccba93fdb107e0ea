use Rattle.std.proofs.Common.{rules, arith, ◌≡◌, ◌∙◌, ◌-ℤ◌, ◌^◌, w64}
use Rattle.std.proofs.lemmas.Int.{ints, to_z-of_z}
use Rattle.hd_picture.specs.Limits.{IsWithin}
use Rattle.hd_picture.specs.inner.EdgeStepping.{weight_change}
use Rattle.hd_picture.proofs.CrossProduct.{read}
use Rattle.hd_picture.proofs.Offsets.{weight_change_within}
use Rattle.hd_picture.proofs.raster.edge_stepping.weight_change.Goals as goal

pub returns-clause-value : goal.returns-clause-value
unfolding weight_change
returns-clause-value c =
    let a = c.args.a in
    let b = c.args.b in
    let offset = c.args.offset in
    let edge_x : read (read b.x -ℤ read a.x) ≡ b.x -ℤ a.x = omega (arith, ints) in
    let edge_y : read (read b.y -ℤ read a.y) ≡ b.y -ℤ a.y = omega (arith, ints) in
    let offset_x : read offset.x ≡ offset.x = omega (arith, ints) in
    let offset_y : read offset.y ≡ offset.y = omega (arith, ints) in
    to_z-of_z w64 c.cross.result (search rules) ∙ (rw (edge_x, edge_y, offset_x, offset_y) at c.cross.ensures.value)

pub returns-clause-small : goal.returns-clause-small
returns-clause-small c =
    let h : IsWithin (2 ^ 28) (weight_change c.args.a c.args.b c.args.offset) = weight_change_within 2 c.args.a c.args.b c.args.offset c.requires.edge c.requires.offset.x c.requires.offset.y in
    rw (returns-clause-value c) h
