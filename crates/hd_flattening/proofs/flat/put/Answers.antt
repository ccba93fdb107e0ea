use Rattle.hd_flattening.proofs.Placing.{locator_free, put_within}
use Rattle.hd_tokens.specs.Tables.{texts}
use Rattle.hd_flattening.proofs.flat.put.Goals as goal

pub set_at-requires-clause-free : goal.set_at-requires-clause-free
set_at-requires-clause-free c = locator_free c.args.flat.now (texts c.args.tokens.now) c.requires.within c.requires.among

pub returns-in-Some-clause-within : goal.returns-in-Some-clause-within
returns-in-Some-clause-within c =
    put_within c.set_at.result c.args.flat.now c.set_at.new.self (texts c.args.tokens.now) c.in-Some.value c.requires.within c.requires.among c.set_at.ensures.ok c.set_at.ensures.err
