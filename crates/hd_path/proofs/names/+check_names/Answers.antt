use Rattle.std.proofs.Common.{ℕ, ◌+◌, List, sym, ap, ◌∙◌, arith}
use Rattle.std.specs.Result.{result_err}
use Rattle.hd_path.specs.Parsing.{names_at, pieces}
use Rattle.hd_path.proofs.Building.{part_rest}
use Rattle.hd_path.proofs.Scanning.{passes_more_at, fails_stop_at}
use Rattle.hd_path.proofs.names.+check_names.Goals as goal

pub returns-then-rest-len-ne47 : goal.returns-then-rest-len-ne47
returns-then-rest-len-ne47 t c =
    sym (fails_stop_at c.args.place c.args.before c.args.rest.now c.identifier_len-len.result c.identifier_len-len.ensures.len
    (omega arith) (omega arith) (omega arith) (omega arith) c.if-rest-len-ne47.true)

pub returns : goal.returns
returns t c =
    let len = c.identifier_len-len.result in
    c.check_names.ensures
    ∙ ap (λ (rest : List ℕ). result_err (names_at (c.args.place + len + 1) (c.args.before + 1) (pieces rest))) (part_rest (len + 1) c.args.rest.now)
    ∙ sym (passes_more_at c.args.place c.args.before c.args.rest.now len c.identifier_len-len.ensures.len
    (omega arith) (omega arith) (omega arith) (omega arith) c.if-rest-len-ne47.false)
