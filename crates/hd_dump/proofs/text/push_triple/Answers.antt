use Rattle.std.proofs.Common.{rules, append_assoc}
use Rattle.hd_dump.proofs.text.push_triple.Goals as goal

pub returns : goal.returns
returns c = search (rules, append_assoc)
