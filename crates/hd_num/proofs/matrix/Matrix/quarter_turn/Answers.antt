use Rattle.std.proofs.Common.{◌≡◌, ◌%◌, ◌<◌, arith, sym, ap, subst, ◌∙◌}
use Rattle.hd_num.specs.declared.axis.Axis.{Axis}
use Rattle.hd_num.specs.declared.axis.Axis.TheVariants.{X, Y, Z}
use Rattle.hd_num.specs.Matrices.{IsMatrix}
use Rattle.hd_num.specs.Turns.{turns}
use Rattle.hd_num.proofs.Quarters.{turned, negated_fits, IsMatrix-turns}
use Rattle.hd_num.proofs.matrix.Matrix.quarter_turn.Goals as goal
use Rattle.hd_num.proofs.matrix.Matrix.quarter_turn.Goals.{Joined-axis, in-X, in-Y, in-Z}

pub overflow_sub-rows : goal.overflow_sub-rows
overflow_sub-rows c = let h : c.args.k % 4 < 4 = omega arith in negated_fits (c.args.k % 4) _ c.cosine_and_sine-cosine.ensures.sine h

pub overflow_sub-rows-in-Y : goal.overflow_sub-rows-in-Y
overflow_sub-rows-in-Y c = let h : c.args.k % 4 < 4 = omega arith in negated_fits (c.args.k % 4) _ c.cosine_and_sine-cosine.ensures.sine h

pub overflow_sub-rows-in-Z : goal.overflow_sub-rows-in-Z
overflow_sub-rows-in-Z c = let h : c.args.k % 4 < 4 = omega arith in negated_fits (c.args.k % 4) _ c.cosine_and_sine-cosine.ensures.sine h

same_rows : (c : Joined-axis) → c.match-axis.rows ≡ turns c.args.axis (c.args.k % 4)
same_rows c =
    let h : c.args.k % 4 < 4 = omega arith in
    let rows = λ (axis : Axis). turned axis (c.args.k % 4) c.cosine_and_sine-cosine.result.0 c.cosine_and_sine-cosine.result.1 h c.cosine_and_sine-cosine.ensures.cosine c.cosine_and_sine-cosine.ensures.sine in
    elim c.match-axis.branch [
      | in-X w ↦ w.rows-is ∙ rows X ∙ ap (λ axis. turns axis (c.args.k % 4)) (sym w.in-X.is)
      | in-Y w ↦ w.rows-is ∙ rows Y ∙ ap (λ axis. turns axis (c.args.k % 4)) (sym w.in-Y.is)
      | in-Z w ↦ w.rows-is ∙ rows Z ∙ ap (λ axis. turns axis (c.args.k % 4)) (sym w.in-Z.is)
    ]

pub invariant_of-result : goal.invariant_of-result
invariant_of-result c =
    let h : c.args.k % 4 < 4 = omega arith in
    subst IsMatrix (sym (same_rows c)) (IsMatrix-turns c.args.axis (c.args.k % 4) h)

pub returns : goal.returns
returns c = same_rows c
