use Rattle.std.proofs.Common.{◌≡◌, ◌^◌, rules, ◌*ℤ◌, to_z, of_z}
use mir.Syntax.{w128}
use Rattle.hd_picture.proofs.Integers.{IsWithin-product}
use Rattle.hd_picture.proofs.define.depth.wide_product.Goals as goal

pub returns-clause-small : goal.returns-clause-small
returns-clause-small c =
    let value : to_z w128 (of_z w128 (to_z w128 (of_z w128 c.from.result) *ℤ to_z w128 (of_z w128 c.from-2.result))) ≡ c.args.weight *ℤ c.args.z = search rules in
    rw value (IsWithin-product (2 ^ 61) (2 ^ 24) c.args.weight c.args.z c.requires.weight c.requires.depth)
