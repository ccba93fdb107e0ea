use Rattle.hd_stack.proofs.Unnested.{authored_unnested}
use Rattle.hd_stack.proofs.Composing.{composed-one, composed-further, composed-first}
use Rattle.hd_stack.proofs.laws.composing_is_associative.Goals as goal

pub returns-clause-one : goal.returns-clause-one
returns-clause-one c = composed-one

pub returns-clause-weaker_first : goal.returns-clause-weaker_first
returns-clause-weaker_first c = composed-further

pub returns-clause-stronger_first : goal.returns-clause-stronger_first
returns-clause-stronger_first c = composed-first

pub returns-clause-unnested : goal.returns-clause-unnested
returns-clause-unnested c = authored_unnested
