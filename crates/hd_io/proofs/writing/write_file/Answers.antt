use Rattle.std.proofs.Common.{◌≡◌, ◌∙◌, ap, arith}
use Rattle.std.proofs.lemmas.Result.{err_from_is_err_and}
use Rattle.std.specs.Option.{option_map}
use Rattle.hd_io.specs.Files.{with_bytes}
use Rattle.hd_io.specs.Rack.{RackState}
use Rattle.hd_io.proofs.Offering.{offered_not}
use Rattle.hd_io.proofs.Pieces.{created_gets, cut_file, whole_file}
use Rattle.hd_io.proofs.writing.write_file.Goals as goal

pub returns-in_err-write_bytes-clause-cut : goal.returns-in_err-write_bytes-clause-cut
returns-in_err-write_bytes-clause-cut g c =
    let p = err_from_is_err_and c.from_residual-in_err-write_bytes.result c.from_residual-in_err-write_bytes.ensures.1 in
    rw p.1 (cut_file c.args.name.now c.args.bytes.now _ _ _ (ap (λ (s : RackState). s.files) c.in_ok-create.ensures.created) c.in_err-write_bytes.ensures.cut)

pub returns-clause-written : goal.returns-clause-written
returns-clause-written g c =
    ap (λ (s : RackState). s.files) c.in_ok-finish.ensures.closed ∙ c.in_ok-write_bytes.ensures.written
    ∙ ap (λ (s : RackState). option_map (with_bytes c.args.bytes.now) s.files) c.in_ok-create.ensures.created
    ∙ created_gets c.args.name.now c.args.bytes.now (g.R.Rack.state c.args.rack.now).files

pub returns-in_err-create-clause-offered_cut : goal.returns-in_err-create-clause-offered_cut
returns-in_err-create-clause-offered_cut g c =
    let p = err_from_is_err_and c.from_residual.result c.from_residual.ensures.1 in
    let same : (g.R.Rack.state c.create.new.self).offers ≡ (g.R.Rack.state c.args.rack.now).offers = grind (arith, c.in_err-create.ensures.failed, c.in_err-create.ensures.no_memory) in
    rw p.1 (offered_not c.args.bytes.now _ _ same)

pub returns-in_err-finish-clause-cut : goal.returns-in_err-finish-clause-cut
returns-in_err-finish-clause-cut g c =
    let p = err_from_is_err_and c.from_residual-in_err-finish.result c.from_residual-in_err-finish.ensures.1 in
    let same : (g.R.Rack.state c.finish.new.self).files ≡ (g.R.Rack.state c.write_bytes.new.rack).files = grind (arith, c.in_err-finish.ensures.failed, c.in_err-finish.ensures.no_memory) in
    rw p.1 (whole_file c.args.name.now c.args.bytes.now _ _ (
    same ∙ c.in_ok-write_bytes.ensures.written
    ∙ ap (λ (s : RackState). option_map (with_bytes c.args.bytes.now) s.files) c.in_ok-create.ensures.created
    ∙ created_gets c.args.name.now c.args.bytes.now (g.R.Rack.state c.args.rack.now).files))
