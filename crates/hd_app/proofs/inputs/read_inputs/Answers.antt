use Rattle.std.proofs.Common.{map, string_bytes, length, ◌≤◌, arith}
use Rattle.std.proofs.lemmas.Bool.Decides.{nat_tests}
use Rattle.std.proofs.lemmas.Grind.{common_steps}
use Rattle.std.proofs.lemmas.List.{length-map}
use Rattle.std.proofs.lemmas.Result.{err_from_is_err_and}
use Rattle.hd_app.proofs.InputLemmas.{layers_refuse, script_refuses}
use Rattle.hd_app.proofs.inputs.read_inputs.Goals as goal

pub returns-in_err-read-clause-refusal : goal.returns-in_err-read-clause-refusal
returns-in_err-read-clause-refusal g c =
    let p = err_from_is_err_and c.from_residual.result c.from_residual.ensures.1 in
    let few : length (map string_bytes c.args.layers.now) ≤ 8 = grind (arith, nat_tests, common_steps, length-map, c.if-layers-number.false, c.number.ensures) in
    rw (p.1, p.2) (layers_refuse (map string_bytes c.args.layers.now) c.args.script.now
    (g.S.Shelf.state c.args.shelf.now)
    (g.S.Shelf.state c.read_layers.new.shelf) c.in_err-read.field-0.0 few c.in_err-read.ensures.refusal)

pub returns-in_err-bytes-clause-refusal : goal.returns-in_err-bytes-clause-refusal
returns-in_err-bytes-clause-refusal g c =
    let p = err_from_is_err_and c.from_residual-in_err-bytes.result c.from_residual-in_err-bytes.ensures.1 in
    let few : length (map string_bytes c.args.layers.now) ≤ 8 = grind (arith, nat_tests, common_steps, length-map, c.if-layers-number.false, c.number.ensures) in
    rw (p.1, p.2) (script_refuses (map string_bytes c.args.layers.now) c.args.script.now c.in_ok-read.read.items
    (g.S.Shelf.state c.args.shelf.now)
    (g.S.Shelf.state c.read_layers.new.shelf)
    (g.S.Shelf.state c.read_script.new.shelf) c.in_err-bytes.field-0.0 few
    c.in_ok-read.ensures.layers c.in_ok-read.ensures.within.files c.in_ok-read.ensures.kept c.in_err-bytes.ensures.refusal)
