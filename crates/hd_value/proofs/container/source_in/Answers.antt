use Rattle.std.proofs.Common.{sym}
use Rattle.hd_value.proofs.Sorting.{at_place, none_in_gap}
use Rattle.hd_value.proofs.container.source_in.Goals as goal

pub returns-in-Ok : goal.returns-in-Ok
returns-in-Ok c =
    let place = c.in-Ok.ensures.found in
    sym (at_place c.args.token.now c.args.entries.now c.in-Ok.i c.index-entries-i.result c.requires place.in_range (place.has_token c.index-entries-i.result))

pub returns-in-Err : goal.returns-in-Err
returns-in-Err c = sym (none_in_gap c.args.token.now c.args.entries.now c.in-Err.field-0 c.in-Err.ensures.missing)
