use Rattle.std.proofs.Common.{◌%◌, ◌<◌, arith, rules, FitsSigned, w64, sym, ap, ◌∙◌}
use Rattle.std.proofs.lemmas.Int.{to_z-of_z}
use Rattle.hd_num.specs.Matrices.{if_in_range, product}
use Rattle.hd_num.specs.Ops.{op_matrix}
use Rattle.hd_num.specs.Turns.{turns}
use Rattle.hd_num.proofs.Shapes.{bounded-in_range, bounded-some}
use Rattle.hd_num.proofs.Quarters.{turns_in_range, IsMatrix-turns}
use Rattle.hd_num.proofs.op.Op.matrix.Goals as goal

pub returns-in-Translate : goal.returns-in-Translate
unfolding op_matrix
returns-in-Translate c =
    let x : FitsSigned w64 c.in-Translate.v.x = search rules in
    let y : FitsSigned w64 c.in-Translate.v.y = search rules in
    let z : FitsSigned w64 c.in-Translate.v.z = search rules in
    c.of_rows.ensures ∙ rw (to_z-of_z w64 _ x, to_z-of_z w64 _ y, to_z-of_z w64 _ z) (ap (λ op. if_in_range (op_matrix op)) (sym c.in-Translate.is))

pub returns-in-Scale : goal.returns-in-Scale
unfolding op_matrix
returns-in-Scale c =
    let x : FitsSigned w64 c.in-Scale.v.x = search rules in
    let y : FitsSigned w64 c.in-Scale.v.y = search rules in
    let z : FitsSigned w64 c.in-Scale.v.z = search rules in
    c.of_rows-in-Scale.ensures ∙ rw (to_z-of_z w64 _ x, to_z-of_z w64 _ y, to_z-of_z w64 _ z) (ap (λ op. if_in_range (op_matrix op)) (sym c.in-Scale.is))

pub returns-in-Rotate : goal.returns-in-Rotate
unfolding op_matrix
returns-in-Rotate c =
    let h : c.in-Rotate.k % 4 < 4 = omega arith in
    let whole = bounded-in_range (turns c.in-Rotate.axis (c.in-Rotate.k % 4)) (IsMatrix-turns c.in-Rotate.axis (c.in-Rotate.k % 4) h).within in
    rw c.quarter_turn.ensures (whole ∙ ap (λ op. if_in_range (op_matrix op)) (sym c.in-Rotate.is))

pub returns-in_err-compose-in-RotateXyz : goal.returns-in_err-compose-in-RotateXyz
returns-in_err-compose-in-RotateXyz c =
    let a : c.in-RotateXyz.x % 4 < 4 = omega arith in
    let b : c.in-RotateXyz.y % 4 < 4 = omega arith in
    let first = c.quarter_turn-in-RotateXyz.result in
    let second = c.quarter_turn-in-RotateXyz-2.result in
    let whole = bounded-in_range (product first second) (turns_in_range (c.in-RotateXyz.x % 4) (c.in-RotateXyz.y % 4) first second a b c.quarter_turn-in-RotateXyz.ensures c.quarter_turn-in-RotateXyz-2.ensures) in
    let none = c.in_err-compose-in-RotateXyz.ensures in
    cc (whole, none)

pub returns-in_ok-compose-in-RotateXyz : goal.returns-in_ok-compose-in-RotateXyz
unfolding op_matrix
returns-in_ok-compose-in-RotateXyz c =
    let first = c.quarter_turn-in-RotateXyz.result in
    let second = c.quarter_turn-in-RotateXyz-2.result in
    let two = bounded-some (product first second) c.in_ok-compose-in-RotateXyz.field-0 c.in_ok-compose-in-RotateXyz.ensures in
    c.compose-in-RotateXyz.ensures
    ∙ rw (two, c.quarter_turn-in-RotateXyz.ensures, c.quarter_turn-in-RotateXyz-2.ensures, c.quarter_turn-in-RotateXyz-3.ensures) (ap (λ op. if_in_range (op_matrix op)) (sym c.in-RotateXyz.is))

pub returns-in-Transform : goal.returns-in-Transform
unfolding op_matrix
returns-in-Transform c = c.if_in_range.ensures ∙ ap (λ op. if_in_range (op_matrix op)) (sym c.in-Transform.is)
