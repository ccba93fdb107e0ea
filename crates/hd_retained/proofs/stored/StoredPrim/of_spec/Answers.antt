use Rattle.hd_retained.proofs.Listing.{spec_held}
use Rattle.hd_retained.proofs.stored.StoredPrim.of_spec.Goals as goal

pub returns-clause-stored : goal.returns-clause-stored
returns-clause-stored c =
    spec_held (record { kind = c.in_ok-copy.field-0; properties = c.in_ok-copy-2.field-0; values = c.in_ok-to_container.field-0 }) c.args.spec.now c.requires c.in_ok-copy-2.ensures c.in_ok-to_container.ensures.values
