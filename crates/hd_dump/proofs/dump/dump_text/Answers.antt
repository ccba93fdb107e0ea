use Rattle.hd_dump.proofs.Dumping.{dump_shown, counted_kept}
use Rattle.hd_dump.proofs.dump.dump_text.Goals as goal

pub push_entries-requires : goal.push_entries-requires
push_entries-requires c = counted_kept c.args.registry.now c.contents_are_unique.ensures c.args.rows.now c.in_ok-users.users c.requires c.in_ok-users.ensures

pub returns : goal.returns
returns c =
    rw (c.in_ok-push_entries.ensures, c.in_ok-push_rows.ensures, c.in_ok-push_head.ensures, c.new-text.ensures.items, c.len.ensures, c.len-2.ensures.len)
    (dump_shown c.args.registry.now c.contents_are_unique.ensures c.args.rows.now c.in_ok-users.users c.requires c.in_ok-users.ensures)
