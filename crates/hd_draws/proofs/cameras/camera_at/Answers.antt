use Rattle.std.proofs.Common.{ap, sym, ◌∙◌}
use Rattle.std.specs.Option.{option_and_then}
use Rattle.hd_draws.specs.Cameras.{camera_place}
use Rattle.hd_draws.proofs.Rows.{place_within, row_found, no_row_found, camera_of_row}
use Rattle.hd_draws.proofs.cameras.camera_at.Goals as goal

pub returns-in_err-find-clause-place : goal.returns-in_err-find-clause-place
returns-in_err-find-clause-place c = λ entries.
    c.from_residual.ensures
    ∙ sym (camera_of_row entries c.args.path.now c.args.rows.now ∙ ap (option_and_then camera_place) (no_row_found c.args.path.now c.args.rows.now c.in_err-find.ensures))

pub row_at-requires : goal.row_at-requires
row_at-requires c = place_within c.args.path.now c.args.rows.now c.in_ok-find.field-0 c.in_ok-find.ensures

pub returns-clause-place : goal.returns-clause-place
returns-clause-place c = λ entries.
    c.camera_place.ensures.place
    ∙ sym (camera_of_row entries c.args.path.now c.args.rows.now ∙ ap (option_and_then camera_place) (row_found c.args.path.now c.args.rows.now c.in_ok-find.field-0 c.row_at.result.now c.in_ok-find.ensures c.row_at.ensures))
