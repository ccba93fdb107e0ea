use Rattle.std.proofs.Common.{ℕ, List, sym, ap, ◌∙◌}
use Rattle.std.proofs.Common.{rules}
use Rattle.std.specs.Prelude.{Ok}
use Rattle.std.specs.Result.{result_err}
use Rattle.hd_path.specs.Paths.{Path}
use Rattle.hd_path.specs.Faults.{Gives}
use Rattle.hd_path.specs.Parsing.{path_of_text}
use Rattle.hd_path.proofs.Spelling.{parsed-slashed, gives_path, spelled_path_has_text}
use Rattle.hd_path.proofs.path.Path.parse.Goals as goal

pub returns-in_err-check_path-clause-only : goal.returns-in_err-check_path-clause-only
returns-in_err-check_path-clause-only c =
    let exact : Gives (path_of_text c.args.text.now) c.from_residual.result = search rules in
    gives_path c.args.text.now c.from_residual.result exact

pub from_slashed-requires : goal.from_slashed-requires
from_slashed-requires c =
    (parsed-slashed c.args.text.now (c.in_ok-check_path.ensures ∙ ap (λ (t : List ℕ). result_err (path_of_text t)) c.as_bytes.ensures.value) c.if-text-eq1.false).0

pub returns-clause-exact : goal.returns-clause-exact
returns-clause-exact c =
    (parsed-slashed c.args.text.now (c.in_ok-check_path.ensures ∙ ap (λ (t : List ℕ). result_err (path_of_text t)) c.as_bytes.ensures.value) c.if-text-eq1.false).1
    ∙ ap (λ (path : Path). Ok path) (sym c.in_ok-from_slashed.ensures)

pub returns-clause-found : goal.returns-clause-found
returns-clause-found c = spelled_path_has_text c.args.text.now c.in_ok-from_slashed.field-0 (returns-clause-exact c)

pub returns-clause-only : goal.returns-clause-only
returns-clause-only c = gives_path c.args.text.now (Ok c.in_ok-from_slashed.field-0) (returns-clause-exact c)
