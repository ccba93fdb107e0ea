use Rattle.std.proofs.Common.{◌≡◌, [], ◌∷◌, refl, ap, ◌∙◌}
use Rattle.std.proofs.lemmas.Result.{err_from_is_err_and}
use Rattle.hd_io.specs.Acts.{file, line}
use Rattle.hd_io.proofs.Cuts.{none_written}
use Rattle.hd_rprim.specs.PrimRows.{rows_of}
use Rattle.hd_dump.specs.Dumps.{dump_text}
use Rattle.hd_session.specs.Steps.{dump_line}
use Rattle.hd_session.proofs.Cuts.{file_cut, line_cut, whole_cut}
use Rattle.hd_session.proofs.acts.dump.Goals as goal

pub returns-in_err-text-clause-cut : goal.returns-in_err-text-clause-cut
returns-in_err-text-clause-cut g c =
    let p = err_from_is_err_and c.from_residual.result c.from_residual.ensures.1 in
    rw p.1 (none_written (file c.args.name.now (dump_text (rows_of c.args.index.now)) ∷ line (dump_line c.args.name.now) ∷ []) _)

pub returns-in_err-line-clause-cut : goal.returns-in_err-line-clause-cut
returns-in_err-line-clause-cut g c =
    let p = err_from_is_err_and c.from_residual-in_err-line.result c.from_residual-in_err-line.ensures.1 in
    rw p.1 (none_written (file c.args.name.now (dump_text (rows_of c.args.index.now)) ∷ line (dump_line c.args.name.now) ∷ []) _)

pub returns-in_err-write_file-clause-cut : goal.returns-in_err-write_file-clause-cut
returns-in_err-write_file-clause-cut g c =
    let p = err_from_is_err_and c.from_residual-in_err-write_file.result c.from_residual-in_err-write_file.ensures.1 in
    let text : c.deref.result.now ≡ dump_text (rows_of c.args.index.now) = c.deref.ensures.value ∙ c.in_ok-text.ensures ∙ ap dump_text c.parts.ensures.shows.rows in
    rw p.1 (whole_cut c.args.name.now c.deref.result.now (dump_line c.args.name.now) _ _ _ _ text refl
    (file_cut c.args.name.now c.deref.result.now (dump_line c.args.name.now) _ _ _ c.in_err-write_file.ensures.cut))

pub returns-in_err-write_line-clause-cut : goal.returns-in_err-write_line-clause-cut
returns-in_err-write_line-clause-cut g c =
    let p = err_from_is_err_and c.from_residual-in_err-write_line.result c.from_residual-in_err-write_line.ensures.1 in
    let text : c.deref.result.now ≡ dump_text (rows_of c.args.index.now) = c.deref.ensures.value ∙ c.in_ok-text.ensures ∙ ap dump_text c.parts.ensures.shows.rows in
    let told : c.deref-2.result.now ≡ dump_line c.args.name.now = c.deref-2.ensures.value ∙ c.in_ok-line.ensures in
    rw p.1 (whole_cut c.args.name.now c.deref.result.now c.deref-2.result.now _ _ _ _ text told
    (line_cut c.args.name.now c.deref.result.now c.deref-2.result.now _ _ _ _ c.in_ok-write_file.ensures.written c.in_err-write_line.ensures.cut))
