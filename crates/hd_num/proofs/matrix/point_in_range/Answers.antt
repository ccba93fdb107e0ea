use Rattle.std.proofs.Common.{◌^◌, rules, FitsSigned, w64, get_or, pos, ap, ◌∙◌, sym}
use Rattle.std.proofs.lemmas.Int.{to_z-of_z}
use Rattle.std.specs.List.{list_all}
use Rattle.hd_num.specs.Matrices.{is_within}
use Rattle.hd_num.proofs.Images.{refused_point, kept_point}
use Rattle.hd_num.proofs.matrix.point_in_range.Goals as goal

pub returns-then-is_row_within : goal.returns-then-is_row_within
returns-then-is_row_within c =
    let x : FitsSigned w64 (get_or c.args.row 0 (pos 0)) = search rules in
    let y : FitsSigned w64 (get_or c.args.row 1 (pos 0)) = search rules in
    let z : FitsSigned w64 (get_or c.args.row 2 (pos 0)) = search rules in
    let same = ap (list_all (is_within (2 ^ 30))) (sym c.is_row_within.ensures.shaped) in
    rw (to_z-of_z w64 _ x, to_z-of_z w64 _ y, to_z-of_z w64 _ z) (kept_point c.args.row (same ∙ sym c.is_row_within.ensures.test ∙ c.if-is_row_within.true))

pub returns-else-is_row_within : goal.returns-else-is_row_within
returns-else-is_row_within c =
    let same = ap (list_all (is_within (2 ^ 30))) (sym c.is_row_within.ensures.shaped) in
    refused_point c.args.row (same ∙ sym c.is_row_within.ensures.test ∙ c.if-is_row_within.false)
