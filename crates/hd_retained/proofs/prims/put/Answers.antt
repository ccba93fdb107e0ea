use Rattle.std.proofs.Common.{subst}
use Rattle.hd_retained.specs.declared.stored.DepthKey.{DepthKey}
use Rattle.hd_retained.proofs.Kept.{Puts, put_sound, put_layer, unchanged_sound}
use Rattle.hd_retained.proofs.prims.put.Goals as goal

pub returns-in_err-insert-clause-sound : goal.returns-in_err-insert-clause-sound
returns-in_err-insert-clause-sound c = unchanged_sound c.args.prims.now c.insert.new.self c.in_err-insert.ensures.err c.requires.sound

pub returns-clause-sound : goal.returns-clause-sound
returns-clause-sound c =
    let puts : Puts c.args.prims.now c.insert.new.self c.in_ok-key.key c.args.stored = c.in_ok-insert.ensures.updates.0 in
    put_sound c.args.prims.now c.insert.new.self c.args.path.now c.args.stored c.requires.sound c.requires.stored (subst (λ (p : DepthKey). Puts c.args.prims.now c.insert.new.self p c.args.stored) c.in_ok-key.ensures puts)

pub returns-clause-ok : goal.returns-clause-ok
returns-clause-ok c =
    let puts : Puts c.args.prims.now c.insert.new.self c.in_ok-key.key c.args.stored = c.in_ok-insert.ensures.updates.0 in
    let there = subst (λ (p : DepthKey). Puts c.args.prims.now c.insert.new.self p c.args.stored) c.in_ok-key.ensures puts in
    put_layer c.args.prims.now c.insert.new.self c.args.path.now c.args.stored c.requires.sound (put_sound c.args.prims.now c.insert.new.self c.args.path.now c.args.stored c.requires.sound c.requires.stored there) there
