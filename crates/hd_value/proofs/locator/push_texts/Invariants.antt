use Rattle.std.proofs.Common.{◌≡◌, ◌++◌, take}
use Rattle.hd_tokens.specs.Tables.{texts}
use Rattle.hd_value.proofs.locator.push_texts.Given as goal

abbrev pub invariant-loop-token : goal.invariant-loop-token
invariant-loop-token l = l.kept.items ≡ l.initial.kept.items ++ texts (take l.token-index l.tokens)
