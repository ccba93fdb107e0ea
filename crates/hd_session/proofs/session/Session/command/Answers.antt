use Rattle.std.proofs.Common.{◌≡◌, [], sym, ap, ◌∙◌}
use Rattle.hd_script.specs.declared.command.Command.TheVariants as command
use Rattle.std.proofs.lemmas.Result.{err_from_is_err_and}
use Rattle.hd_stack.specs.Stacks.{Stacked}
use Rattle.hd_session.specs.States.{State, Session}
use Rattle.hd_session.specs.Steps.{step}
use Rattle.hd_session.proofs.Serving.{without_memory, edit_refused, commit_refused, dump_refused}
use Rattle.hd_session.proofs.Doing.{layer_done, edit_done, commit_done, dump_done}
use Rattle.hd_session.proofs.session.Session.command.Goals as goal
use Rattle.hd_session.proofs.session.Session.command.Goals.{in-Layer+in_ok-self-inside-in-Layer, in-Edit+in_ok-edit-in-Edit, in-Commit+in_ok-index-in-Commit+in_ok-commit-in-Commit, in-Dump+in_ok-dump-in-Dump}

pub returns-in_err-edit-in-Edit-clause-refusal : goal.returns-in_err-edit-in-Edit-clause-refusal
returns-in_err-edit-in-Edit-clause-refusal g c =
    let state : State = record { layers = c.self.inside.stack.layers; committed = c.self.inside.committed.value.layers; current = c.self.inside.current; commits = c.self.inside.commits } in
    let p = err_from_is_err_and c.from_residual-in_err-edit-in-Edit.result c.from_residual-in_err-edit-in-Edit.ensures.1 in
    rw (p.1, p.2) (edit_refused c.args.self.now.state state c.args.command.now c.in-Edit.edit c.in_err-edit-in-Edit.field-0.0 _ (ap (λ (s : Session). s.state) c.self.view_is) c.in-Edit.is c.in_err-edit-in-Edit.ensures.refusal)

pub returns-in_err-index-in-Commit-clause-refusal : goal.returns-in_err-index-in-Commit-clause-refusal
returns-in_err-index-in-Commit-clause-refusal g c =
    let p = err_from_is_err_and c.from_residual-in_err-index-in-Commit.result c.from_residual-in_err-index-in-Commit.ensures.1 in
    rw (p.1, p.2) (without_memory (step c.args.self.now.state c.args.command.now []) _)

pub returns-in_err-commit-in-Commit-clause-refusal : goal.returns-in_err-commit-in-Commit-clause-refusal
returns-in_err-commit-in-Commit-clause-refusal g c =
    let state : State = record { layers = c.self.inside.stack.layers; committed = c.self.inside.committed.value.layers; current = c.self.inside.current; commits = c.self.inside.commits } in
    let p = err_from_is_err_and c.from_residual-in_err-commit-in-Commit.result c.from_residual-in_err-commit-in-Commit.ensures.1 in
    rw (p.1, p.2) (commit_refused c.args.self.now.state state c.args.command.now c.in_ok-index-in-Commit.index _ _ _ c.in_err-commit-in-Commit.field-0.0 (ap (λ (s : Session). s.state) c.self.view_is) c.in-Commit.is c.in_ok-index-in-Commit.ensures.rows c.in_err-commit-in-Commit.ensures.cut c.in_err-commit-in-Commit.ensures.cause)

pub returns-in_err-dump-in-Dump-clause-refusal : goal.returns-in_err-dump-in-Dump-clause-refusal
returns-in_err-dump-in-Dump-clause-refusal g c =
    let state : State = record { layers = c.self.inside.stack.layers; committed = c.self.inside.committed.value.layers; current = c.self.inside.current; commits = c.self.inside.commits } in
    let p = err_from_is_err_and c.from_residual-in_err-dump-in-Dump.result c.from_residual-in_err-dump-in-Dump.ensures.1 in
    rw (p.1, p.2) (dump_refused c.args.self.now.state state c.args.command.now c.text.result.now c.self.inside.index _ _ c.in_err-dump-in-Dump.field-0.0 (ap (λ (s : Session). s.state) c.self.view_is) (c.in-Dump.is ∙ ap (λ n. command.Dump n) (sym c.text.ensures)) c.self.invariant.shows c.in_err-dump-in-Dump.ensures.cut c.in_err-dump-in-Dump.ensures.cause)

pub returns-clause-done : goal.returns-clause-done
returns-clause-done g c =
    let state : State = record { layers = c.self.inside.stack.layers; committed = c.self.inside.committed.value.layers; current = c.self.inside.current; commits = c.self.inside.commits } in
    let same : state ≡ c.args.self.now.state = ap (λ (s : Session). s.state) c.self.view_is in
    elim c.match-command.branch [
      | in-Layer+in_ok-self-inside-in-Layer w ↦
          rw (w.rack-is, w.out-is, w.self-inside-is) (layer_done c.args.self.now.state state c.args.command.now w.in-Layer.number _ w.layers.result _ same w.in-Layer.is w.in_ok-self-inside-in-Layer.ensures.found w.layers.ensures.count w.in_ok-self-inside-in-Layer.ensures.there)
      | in-Edit+in_ok-edit-in-Edit w ↦
          rw (w.rack-is, w.out-is, w.self-inside-is) (edit_done c.args.self.now.state state c.args.command.now w.in-Edit.edit _ _ same w.in-Edit.is w.in_ok-edit-in-Edit.ensures.done)
      | in-Commit+in_ok-index-in-Commit+in_ok-commit-in-Commit w ↦
          rw (w.rack-is, w.out-is, w.self-inside-is) (commit_done c.args.self.now.state state c.args.command.now w.in_ok-index-in-Commit.index _ w.of-committed.result.value.layers _ _ (g.O.Sink.state c.args.out.now) (g.O.Sink.state w.commit.new.out) same w.in-Commit.is w.in_ok-index-in-Commit.ensures.rows w.in_ok-index-in-Commit.ensures.same_layers (ap (λ (x : Stacked). x.layers) w.of-committed.ensures) w.in_ok-commit-in-Commit.ensures.counted w.in_ok-commit-in-Commit.ensures.written w.in_ok-commit-in-Commit.ensures.cause.kept)
      | in-Dump+in_ok-dump-in-Dump w ↦
          rw (w.rack-is, w.out-is, w.self-inside-is) (dump_done c.args.self.now.state state c.args.command.now w.text.result.now c.self.inside.index _ _ same (w.in-Dump.is ∙ ap (λ n. command.Dump n) (sym w.text.ensures)) c.self.invariant.shows w.in_ok-dump-in-Dump.ensures.written w.in_ok-dump-in-Dump.ensures.kept)
    ]
