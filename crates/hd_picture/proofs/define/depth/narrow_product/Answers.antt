use Rattle.std.proofs.Common.{◌^◌, arith, w64}
use Rattle.hd_picture.proofs.Integers.{IsWithin-product, read_product}
use Rattle.hd_picture.proofs.define.depth.narrow_product.Goals as goal

pub returns-clause-value : goal.returns-clause-value
returns-clause-value c =
    read_product w64 (2 ^ 36) (2 ^ 24) c.args.weight c.args.z (omega arith) (omega arith) (omega arith) c.requires.weight c.requires.depth

pub returns-clause-small : goal.returns-clause-small
returns-clause-small c =
    rw (returns-clause-value c) (IsWithin-product (2 ^ 36) (2 ^ 24) c.args.weight c.args.z c.requires.weight c.requires.depth)
