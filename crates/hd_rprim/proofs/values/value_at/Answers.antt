use Rattle.std.proofs.Common.{sym}
use Rattle.std.specs.Cmp.Lexicographic.{slice_cmp}
use Rattle.std.specs.Ordering.{nat_cmp}
use Rattle.std.specs.FinMap.{get-empty}
use Rattle.hd_tokens.specs.Tables.{texts}
use Rattle.hd_rprim.proofs.values.value_at.Goals as goal

-- no values are at no locator
pub returns-in-None : goal.returns-in-None
returns-in-None c = rw c.in-None.is (sym (get-empty (slice_cmp (slice_cmp nat_cmp)) (texts c.args.tokens.now)))
