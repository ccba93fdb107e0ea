use Rattle.std.proofs.Common.{arith, ◌≡◌, ◌-◌, length}
use Rattle.std.proofs.lemmas.Grind.{common_steps}
use Rattle.hd_rprim.specs.Fans.{fan_triangle}
use Rattle.hd_rprim.proofs.Fanning.{corner_more}
use Rattle.hd_rprim.proofs.fans.push_fan.Goals as goal

pub loop-k-preserved : goal.loop-k-preserved
loop-k-preserved c =
    let more = corner_more (fan_triangle c.args.number c.args.face.now) c.loop-k.k (omega arith) in
    record { made = grind (arith, common_steps, more); within = omega arith }

pub returns : goal.returns
returns c =
    let all : c.loop-k.k - 1 ≡ length c.args.face.now - 2 = omega (arith, c.loop-k.invariant.within) in
    rw (← all) c.loop-k.invariant.made
