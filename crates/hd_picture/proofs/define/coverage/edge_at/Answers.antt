use Rattle.std.proofs.Common.{rules, arith, ◌≡◌, ◌∙◌, ◌-ℤ◌, w64}
use Rattle.std.proofs.lemmas.Int.{ints, to_z-of_z}
use Rattle.hd_picture.specs.define.Coverage.{edge}
use Rattle.hd_picture.proofs.CrossProduct.{read}
use Rattle.hd_picture.proofs.define.coverage.edge_at.Goals as goal

pub returns-clause-value : goal.returns-clause-value
unfolding edge
returns-clause-value c =
    let a = c.args.a in
    let b = c.args.b in
    let q = c.args.q in
    let edge_x : read (read b.x -ℤ read a.x) ≡ b.x -ℤ a.x = omega (arith, ints) in
    let edge_y : read (read b.y -ℤ read a.y) ≡ b.y -ℤ a.y = omega (arith, ints) in
    let offset_x : read (read q.x -ℤ read a.x) ≡ q.x -ℤ a.x = omega (arith, ints) in
    let offset_y : read (read q.y -ℤ read a.y) ≡ q.y -ℤ a.y = omega (arith, ints) in
    to_z-of_z w64 c.cross.result (search rules) ∙ (rw (edge_x, edge_y, offset_x, offset_y) at c.cross.ensures.value)
