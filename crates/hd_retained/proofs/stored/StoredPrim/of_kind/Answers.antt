use Rattle.hd_retained.proofs.Listing.{empty_held}
use Rattle.hd_retained.proofs.stored.StoredPrim.of_kind.Goals as goal

pub returns-clause-stored : goal.returns-clause-stored
returns-clause-stored c = empty_held _ c.empty.ensures c.new.ensures
