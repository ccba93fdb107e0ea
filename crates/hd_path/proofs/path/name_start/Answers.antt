use Rattle.std.proofs.Common.{sym, arith}
use Rattle.hd_path.specs.Texts.{names_in}
use Rattle.hd_path.proofs.Building.{BeginsName, begins_name}
use Rattle.hd_path.proofs.path.name_start.Goals as goal

-- what is known of the name at which a turn begins
begins : (c : goal.In-loop-name) → BeginsName (names_in c.args.text.now) c.loop-name._name c.args.text.now c.loop-name.start
begins c = begins_name c.args.text.now (names_in c.args.text.now) c.loop-name._name c.loop-name.start (sym c.requires.names.same) c.requires.names.path (omega arith) c.loop-name.invariant

pub identifier_len_at-requires : goal.identifier_len_at-requires
identifier_len_at-requires c = let b = begins c in omega (arith, b.within)

pub overflow_add-start-in-loop-name : goal.overflow_add-start-in-loop-name
overflow_add-start-in-loop-name c = omega (arith, c.identifier_len_at.ensures.within)

pub loop-name-preserved : goal.loop-name-preserved
loop-name-preserved c =
    let b = begins_name c.args.text.now (names_in c.args.text.now) c.loop-name._name c.loop-name.start (sym c.requires.names.same) c.requires.names.path (omega arith) c.loop-name.invariant in
    omega (arith, b.next, b.len, c.identifier_len_at.ensures.len)
