use Rattle.std.proofs.Common.{pos, ◌∙◌}
use Rattle.hd_num.specs.Matrices.{with_last, row_times}
use Rattle.hd_num.proofs.Images.{refused_first, refused_second, refused_third, kept_three}
use Rattle.hd_num.proofs.matrix.Matrix.apply_wide.Goals as goal

pub returns-in_err-wide_component : goal.returns-in_err-wide_component
returns-in_err-wide_component c =
    let f = row_times (with_last c.args.row (pos 1)) c.args.self.now in
    c.from_residual.ensures ∙ refused_first (f 0) (f 1) (f 2) c.in_err-wide_component.ensures

pub returns-in_err-wide_component-2 : goal.returns-in_err-wide_component-2
returns-in_err-wide_component-2 c =
    let f = row_times (with_last c.args.row (pos 1)) c.args.self.now in
    c.from_residual-in_err-wide_component-2.ensures ∙ refused_second (f 0) (f 1) (f 2) c.in_err-wide_component-2.ensures

pub returns-in_err-wide_component-3 : goal.returns-in_err-wide_component-3
returns-in_err-wide_component-3 c =
    let f = row_times (with_last c.args.row (pos 1)) c.args.self.now in
    c.from_residual-in_err-wide_component-3.ensures ∙ refused_third (f 0) (f 1) (f 2) c.in_err-wide_component-3.ensures

pub returns : goal.returns
returns c =
    let f = row_times (with_last c.args.row (pos 1)) c.args.self.now in
    kept_three (f 0) (f 1) (f 2) _ _ _ c.in_ok-wide_component.ensures c.in_ok-wide_component-2.ensures c.in_ok-wide_component-3.ensures
