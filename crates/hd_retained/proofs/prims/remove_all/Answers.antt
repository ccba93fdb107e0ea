use Rattle.hd_retained.proofs.Gathering.{without_more}
use Rattle.hd_retained.proofs.prims.remove_all.Goals as goal

pub loop-key-preserved : goal.loop-key-preserved
loop-key-preserved c =
    without_more c.args.prims.now c.loop-key.prims c.remove.new.self c.args.keys.now c.loop-key.key-index c.key-item.result c.loop-key-test.true c.key-item.is c.loop-key.invariant c.remove.ensures.updates.0
