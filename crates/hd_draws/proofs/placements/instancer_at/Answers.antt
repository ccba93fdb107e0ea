use Rattle.std.proofs.Common.{ap, sym, ◌∙◌}
use Rattle.std.specs.Option.{option_and_then, option_copied}
use Rattle.hd_draws.specs.Placements.{instancer_of}
use Rattle.hd_draws.proofs.Rows.{place_within, row_found, no_row_found, no_instancer, instancer_of_row}
use Rattle.hd_draws.proofs.placements.instancer_at.Goals as goal

pub returns-in_err-find : goal.returns-in_err-find
returns-in_err-find c = λ entries.
    ap option_copied c.from_residual.ensures
    ∙ sym (instancer_of_row entries c.args.path.now c.args.rows.now ∙ ap (option_and_then instancer_of) (no_row_found c.args.path.now c.args.rows.now c.in_err-find.ensures))

pub row_at-requires : goal.row_at-requires
row_at-requires c = place_within c.args.path.now c.args.rows.now c.in_ok-find.field-0 c.in_ok-find.ensures

pub returns-in-Instancer : goal.returns-in-Instancer
returns-in-Instancer c = λ entries.
    sym (instancer_of_row entries c.args.path.now c.args.rows.now
    ∙ ap (option_and_then instancer_of) (row_found c.args.path.now c.args.rows.now c.in_ok-find.field-0 c.row_at.result.now c.in_ok-find.ensures c.row_at.ensures)
    ∙ ap instancer_of c.in-Instancer.is)

pub returns-in_default : goal.returns-in_default
returns-in_default c = λ entries.
    sym (instancer_of_row entries c.args.path.now c.args.rows.now
    ∙ ap (option_and_then instancer_of) (row_found c.args.path.now c.args.rows.now c.in_ok-find.field-0 c.row_at.result.now c.in_ok-find.ensures c.row_at.ensures)
    ∙ no_instancer c.row_at.result.now c.in_default.not-Instancer)
