use Rattle.std.proofs.Common.{arith}
use Rattle.hd_path.proofs.NamePrefixes.{is_prefix-le}
use Rattle.hd_path.proofs.path.Path.replace_prefix.Goals as goal

pub overflow_sub-depth : goal.overflow_sub-depth
overflow_sub-depth c = omega (arith, c.depth.ensures.names, c.depth-2.ensures.names, is_prefix-le c.args.from.now c.args.self.now c.requires)
