use Rattle.std.proofs.Common.{rules, append_assoc}
use Rattle.hd_dump.proofs.items.TriItem.push.Goals as goal

pub returns : goal.returns
returns c = search (rules, append_assoc)
