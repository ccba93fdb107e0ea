use Rattle.std.proofs.Common.{arith}
use Rattle.std.proofs.lemmas.Int.{ints}
use Rattle.hd_picture.proofs.DepthFractionLemmas.{next_fraction_less, next_fraction_more}
use Rattle.hd_picture.proofs.raster.depth_fraction.next_fraction.Goals as goal

pub returns-then-remainder-lt0 : goal.returns-then-remainder-lt0
returns-then-remainder-lt0 c =
    next_fraction_less c.args.area c.args.at c.args.step _ c.requires.at c.requires.lack c.requires.step (omega (arith, ints)) (omega (arith, ints)) (omega (arith, ints))

pub returns-else-remainder-lt0 : goal.returns-else-remainder-lt0
returns-else-remainder-lt0 c =
    next_fraction_more c.args.area c.args.at c.args.step _ c.requires.at c.requires.lack c.requires.step (omega (arith, ints)) (omega (arith, ints)) (omega (arith, ints))
