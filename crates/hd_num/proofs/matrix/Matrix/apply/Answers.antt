use Rattle.std.proofs.Common.{◌≡◌, rules, FitsSigned, w64, pos, List, ℤ, ap, ◌∙◌, refl, ◌∷◌, []}
use Rattle.std.proofs.lemmas.Int.{to_z-of_z}
use Rattle.hd_num.specs.Matrices.{three, with_last, row_times}
use Rattle.hd_num.specs.Points.{if_point_in_range, point_of, transform_point}
use Rattle.hd_num.proofs.Sizes.{kept}
use Rattle.hd_num.proofs.Images.{bounded_point-in_range}
use Rattle.hd_num.proofs.matrix.Matrix.apply.Goals as goal
use Rattle.hd_num.proofs.matrix.Matrix.apply.Goals.{After-point_in_range, After-apply_wide}

same_row : (x y z : ℤ) → FitsSigned w64 x → FitsSigned w64 y → FitsSigned w64 z → ◌≡◌ {A = List ℤ} (kept w64 x ∷ kept w64 y ∷ kept w64 z ∷ []) (x ∷ y ∷ z ∷ [])
same_row x y z fx fy fz = rw (to_z-of_z w64 x fx, to_z-of_z w64 y fy, to_z-of_z w64 z fz) refl

in_narrow : (c : After-point_in_range) → c.point_in_range.result ≡ if_point_in_range (transform_point c.args.p c.args.self.now)
unfolding transform_point
in_narrow c =
    let row = same_row c.args.p.x c.args.p.y c.args.p.z (search rules) (search rules) (search rules) in
    c.point_in_range.ensures
    ∙ ap (λ image. if_point_in_range (point_of image)) c.image.ensures
    ∙ ap (λ numbers. if_point_in_range (point_of (three (row_times (with_last numbers (pos 1)) c.args.self.now)))) row

in_wide : (c : After-apply_wide) → c.apply_wide.result ≡ if_point_in_range (transform_point c.args.p c.args.self.now)
unfolding transform_point
in_wide c =
    let row = same_row c.args.p.x c.args.p.y c.args.p.z (search rules) (search rules) (search rules) in
    c.apply_wide.ensures ∙ ap (λ numbers. if_point_in_range (point_of (three (row_times (with_last numbers (pos 1)) c.args.self.now)))) row

pub returns-then-is_row_within : goal.returns-then-is_row_within
returns-then-is_row_within c = record { exact = in_narrow c; within = bounded_point-in_range _ _ (in_narrow c) }

pub returns-else-is_row_within : goal.returns-else-is_row_within
returns-else-is_row_within c = record { exact = in_wide c; within = bounded_point-in_range _ _ (in_wide c) }
