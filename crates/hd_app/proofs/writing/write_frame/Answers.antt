use Rattle.std.proofs.lemmas.Result.{err_from_is_err_and}
use Rattle.hd_session.proofs.Cuts.{file_cut, line_cut}
use Rattle.hd_app.proofs.writing.write_frame.Goals as goal

pub returns-in_err-write_file-clause-cut : goal.returns-in_err-write_file-clause-cut
returns-in_err-write_file-clause-cut g c =
    let p = err_from_is_err_and c.from_residual.result c.from_residual.ensures.1 in
    rw p.1 (file_cut c.args.name.now c.args.picture.now c.args.text.now _ _ _ c.in_err-write_file.ensures.cut)

pub returns-in_err-write_line-clause-cut : goal.returns-in_err-write_line-clause-cut
returns-in_err-write_line-clause-cut g c =
    let p = err_from_is_err_and c.from_residual-in_err-write_line.result c.from_residual-in_err-write_line.ensures.1 in
    rw p.1 (line_cut c.args.name.now c.args.picture.now c.args.text.now _ _ _ _ c.in_ok-write_file.ensures.written c.in_err-write_line.ensures.cut)
