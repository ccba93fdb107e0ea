use Rattle.std.proofs.Common.{map, string_bytes, arith, ◌+◌, ◌∙◌}
use Rattle.std.proofs.lemmas.Grind.{common_steps}
use Rattle.std.proofs.lemmas.Result.{err_from_is_err_and}
use Rattle.hd_app.specs.Outcomes.{byte_limit}
use Rattle.hd_app.proofs.InputLemmas.{named_at, told_one_more, told_one_more_spells, all_formed, within_joined, refused_among}
use Rattle.hd_app.proofs.inputs.read_layers.Goals as goal

pub returns-in_err-layer-clause-refusal : goal.returns-in_err-layer-clause-refusal
returns-in_err-layer-clause-refusal g c =
    let p = err_from_is_err_and c.from_residual.result c.from_residual.ensures.1 in
    rw (p.1, p.2) (refused_among (map string_bytes c.args.names.now) c.loop-name.name-index c.deref.result.now
    (g.S.Shelf.state c.args.shelf.now)
    (g.S.Shelf.state c.loop-name.shelf)
    (g.S.Shelf.state c.read_layer.new.shelf) c.in_err-layer.field-0.0
    (named_at string_bytes c.args.names.now c.loop-name.name-index c.name-item.result c.deref.result.now c.loop-name-test.true c.name-item.is c.deref.ensures)
    c.loop-name.invariant.files c.loop-name.invariant.faults c.loop-name.invariant.spelled c.in_err-layer.ensures.refusal)

pub loop-name-preserved : goal.loop-name-preserved
loop-name-preserved g c =
    let at = named_at string_bytes c.args.names.now c.loop-name.name-index c.name-item.result c.deref.result.now c.loop-name-test.true c.name-item.is c.deref.ensures in
    record {
      files = c.in_ok-layer.ensures.within.files ∙ c.loop-name.invariant.files;
      faults = c.in_ok-layer.ensures.kept ∙ c.loop-name.invariant.faults;
      taken = within_joined _ _ _ (byte_limit + 1) c.in_ok-layer.ensures.within.taken c.loop-name.invariant.taken;
      count = grind (arith, common_steps, c.in_ok-push.ensures.len, c.loop-name.invariant.count);
      formed = all_formed _ _ _ c.in_ok-push.ensures.items c.in_ok-layer.ensures.formed c.loop-name.invariant.formed;
      spelled = told_one_more_spells _ _ _ _ c.deref.result.now _ c.loop-name.invariant.files at c.in_ok-layer.ensures.layer c.loop-name.invariant.spelled;
      read = rw c.in_ok-push.ensures.items (told_one_more _ _ _ _ c.deref.result.now _ _ c.loop-name.invariant.files at c.in_ok-layer.ensures.layer c.loop-name.invariant.read);
    }
