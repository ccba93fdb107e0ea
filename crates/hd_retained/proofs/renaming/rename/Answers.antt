use Rattle.std.proofs.Common.{◌≡◌, inl, inr, List, map, Err, sym, ◌∙◌, ap, subst}
use Rattle.std.specs.List.{list_all, list_any}
use Rattle.hd_path.specs.Paths.{is_prefix}
use Rattle.hd_scene.specs.Scenes.{IsClosed}
use Rattle.hd_retained.specs.declared.fault.EditFault.{EditFault}
use Rattle.hd_retained.specs.declared.stored.DepthKey.{DepthKey}
use Rattle.hd_retained.specs.Layers.{Layer, scene_of}
use Rattle.hd_retained.specs.Edits.{after_rename}
use Rattle.hd_retained.specs.inner.Indexed.{layer_in, moved_key, is_key_too_deep, with_copies, IsPartlyCopied, IsWithout}
use Rattle.hd_retained.proofs.Closed.{without_sound}
use Rattle.hd_retained.proofs.Copies.{all_begin, copies_done, copies_undone, deep_keys, shallow_keys, err_fact, ok_fact, handed_on}
use Rattle.hd_retained.proofs.Moving.{IsFree, renamed}
use Rattle.hd_retained.proofs.Renamed.{free_below, rename_closed, rename_deep, rename_done}
use Rattle.hd_retained.proofs.renaming.rename.Goals as goal

pub moved_keys-requires : goal.moved_keys-requires
moved_keys-requires c =
    let m = c.args.prims.now in
    let from = c.args.from.now in
    ap (list_all (λ (p : DepthKey). is_prefix from p.path)) c.deref.ensures.value ∙ all_begin m from c.in_ok-keys.keys.items c.requires.index.sound c.in_ok-keys.ensures

pub returns-in_err-others-clause-refusal : goal.returns-in_err-others-clause-refusal
returns-in_err-others-clause-refusal c =
    let m = c.args.prims.now in
    let from = c.args.from.now in
    let to = c.args.to.now in
    let keys = c.in_ok-keys.keys.items in
    handed_on c.from_residual-in_err-others.result c.in_err-others.field-0.0 (after_rename (layer_in m) from to) c.from_residual-in_err-others.ensures.1
    (elim c.in_err-others.ensures.fault [
      | inl none ↦ inl none
      | inr deep ↦ inr (
          rename_deep (layer_in m) from to c.in_ok-check_move.ensures.ok (deep_keys m from to keys c.requires.index.sound c.in_ok-keys.ensures (ap (list_any (is_key_too_deep from to)) (sym c.deref.ensures.value) ∙ deep.1))
          ∙ ap (λ (f : EditFault). Err f) (sym deep.0))
    ])

pub returns-then-is_err-clause-err : goal.returns-then-is_err-clause-err
returns-then-is_err-clause-err c =
    let m = c.args.prims.now in
    let from = c.args.from.now in
    let to = c.args.to.now in
    let keys = c.in_ok-keys.keys.items in
    let k = c.copy_all.new.prims in
    let others = c.in_ok-others.others.items in
    let free : IsFree (layer_in m) to = free_below (layer_in m) to c.requires.index.closed c.requires.to c.in_ok-check_move.ensures.ok.free in
    let is : others ≡ map (moved_key from to) keys = c.in_ok-others.ensures.keys ∙ ap (map (moved_key from to)) c.deref.ensures.value in
    let partly : IsPartlyCopied (layer_in m) keys others (layer_in k) =
    subst (λ (ps : List DepthKey). IsPartlyCopied (layer_in m) ps others (layer_in k)) c.deref-2.ensures.value
    (subst (λ (ps : List DepthKey). IsPartlyCopied (layer_in m) c.deref-2.result.now ps (layer_in k)) c.deref-3.ensures.value (err_fact c.copy_all.result (sym c.is_err.ensures.value ∙ c.if-is_err.true) c.copy_all.ensures.err)) in
    let without : IsWithout k others c.remove_all.new.prims = subst (λ (ps : List DepthKey). IsWithout k ps c.remove_all.new.prims) c.deref-then-is_err.ensures.value c.remove_all.ensures in
    let same : layer_in c.remove_all.new.prims ≡ layer_in m = copies_undone m k c.remove_all.new.prims from to keys others c.requires.index.sound c.copy_all.ensures.sound free c.in_ok-keys.ensures is partly without in
    same

pub returns-then-is_err-clause-index : goal.returns-then-is_err-clause-index
returns-then-is_err-clause-index c =
    let m = c.args.prims.now in
    let from = c.args.from.now in
    let to = c.args.to.now in
    let keys = c.in_ok-keys.keys.items in
    let k = c.copy_all.new.prims in
    let others = c.in_ok-others.others.items in
    let free : IsFree (layer_in m) to = free_below (layer_in m) to c.requires.index.closed c.requires.to c.in_ok-check_move.ensures.ok.free in
    let is : others ≡ map (moved_key from to) keys = c.in_ok-others.ensures.keys ∙ ap (map (moved_key from to)) c.deref.ensures.value in
    let partly : IsPartlyCopied (layer_in m) keys others (layer_in k) =
    subst (λ (ps : List DepthKey). IsPartlyCopied (layer_in m) ps others (layer_in k)) c.deref-2.ensures.value
    (subst (λ (ps : List DepthKey). IsPartlyCopied (layer_in m) c.deref-2.result.now ps (layer_in k)) c.deref-3.ensures.value (err_fact c.copy_all.result (sym c.is_err.ensures.value ∙ c.if-is_err.true) c.copy_all.ensures.err)) in
    let without : IsWithout k others c.remove_all.new.prims = subst (λ (ps : List DepthKey). IsWithout k ps c.remove_all.new.prims) c.deref-then-is_err.ensures.value c.remove_all.ensures in
    let same : layer_in c.remove_all.new.prims ≡ layer_in m = copies_undone m k c.remove_all.new.prims from to keys others c.requires.index.sound c.copy_all.ensures.sound free c.in_ok-keys.ensures is partly without in
    record {
      sound = without_sound k c.remove_all.new.prims others c.copy_all.ensures.sound without;
      closed = subst (λ (l : Layer). IsClosed (scene_of l)) (sym same) c.requires.index.closed;
    }

pub returns-clause-index : goal.returns-clause-index
returns-clause-index c =
    let m = c.args.prims.now in
    let from = c.args.from.now in
    let to = c.args.to.now in
    let keys = c.in_ok-keys.keys.items in
    let k = c.copy_all.new.prims in
    let others = c.in_ok-others.others.items in
    let free : IsFree (layer_in m) to = free_below (layer_in m) to c.requires.index.closed c.requires.to c.in_ok-check_move.ensures.ok.free in
    let is : others ≡ map (moved_key from to) keys = c.in_ok-others.ensures.keys ∙ ap (map (moved_key from to)) c.deref.ensures.value in
    let n = c.remove_all-2.new.prims in
    let shallow = shallow_keys m from to keys c.requires.index.sound c.in_ok-keys.ensures (ap (list_any (is_key_too_deep from to)) (sym c.deref.ensures.value) ∙ c.in_ok-others.ensures.shallow) in
    let made : layer_in k ≡ with_copies (layer_in m) keys others =
    ok_fact c.copy_all.result (sym c.is_err.ensures.value ∙ c.if-is_err.false) c.copy_all.ensures.ok
    ∙ ap (λ (ps : List DepthKey). with_copies (layer_in m) ps c.deref-3.result.now) c.deref-2.ensures.value
    ∙ ap (with_copies (layer_in m) keys) c.deref-3.ensures.value in
    let without : IsWithout k keys n = subst (λ (ps : List DepthKey). IsWithout k ps n) c.deref-4.ensures.value c.remove_all-2.ensures in
    let new : layer_in n ≡ renamed (layer_in m) from to = copies_done m k n from to keys others c.requires.index.sound c.copy_all.ensures.sound free c.in_ok-keys.ensures is made without in
    record {
      sound = without_sound k n keys c.copy_all.ensures.sound without;
      closed = subst (λ (l : Layer). IsClosed (scene_of l)) (sym new) (rename_closed (layer_in m) from to c.requires.index.closed c.requires.from c.requires.to c.is_path.ensures c.in_ok-check_move.ensures.ok shallow);
    }

pub returns-clause-done : goal.returns-clause-done
returns-clause-done c =
    let m = c.args.prims.now in
    let from = c.args.from.now in
    let to = c.args.to.now in
    let keys = c.in_ok-keys.keys.items in
    let k = c.copy_all.new.prims in
    let others = c.in_ok-others.others.items in
    let free : IsFree (layer_in m) to = free_below (layer_in m) to c.requires.index.closed c.requires.to c.in_ok-check_move.ensures.ok.free in
    let is : others ≡ map (moved_key from to) keys = c.in_ok-others.ensures.keys ∙ ap (map (moved_key from to)) c.deref.ensures.value in
    let n = c.remove_all-2.new.prims in
    let shallow = shallow_keys m from to keys c.requires.index.sound c.in_ok-keys.ensures (ap (list_any (is_key_too_deep from to)) (sym c.deref.ensures.value) ∙ c.in_ok-others.ensures.shallow) in
    let made : layer_in k ≡ with_copies (layer_in m) keys others =
    ok_fact c.copy_all.result (sym c.is_err.ensures.value ∙ c.if-is_err.false) c.copy_all.ensures.ok
    ∙ ap (λ (ps : List DepthKey). with_copies (layer_in m) ps c.deref-3.result.now) c.deref-2.ensures.value
    ∙ ap (with_copies (layer_in m) keys) c.deref-3.ensures.value in
    let without : IsWithout k keys n = subst (λ (ps : List DepthKey). IsWithout k ps n) c.deref-4.ensures.value c.remove_all-2.ensures in
    let new : layer_in n ≡ renamed (layer_in m) from to = copies_done m k n from to keys others c.requires.index.sound c.copy_all.ensures.sound free c.in_ok-keys.ensures is made without in
    rename_done (layer_in m) (layer_in n) from to c.in_ok-check_move.ensures.ok shallow new
