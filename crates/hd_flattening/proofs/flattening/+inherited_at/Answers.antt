use Rattle.std.proofs.Common.{◌≡◌, ℕ, ◌≤◌, List, ◌∷◌, length, ap, ◌∙◌, arith}
use Rattle.std.proofs.lemmas.Result.{IfOk-weaker}
use Rattle.std.specs.FinMap.{get}
use Rattle.hd_scene.specs.Scenes.{Scene, prim_of}
use Rattle.hd_flattening.specs.Flat.{ancestors}
use Rattle.hd_flattening.specs.inner.Inheriting.{inherited_from, prim_values}
use Rattle.hd_flattening.proofs.Walking.{ancestors-parent}
use Rattle.hd_flattening.proofs.flattening.+inherited_at.Goals as goal

pub returns-clause-value : goal.returns-clause-value
returns-clause-value g t c =
    let scene : Scene = g.I.SceneIndex.scene c.args.input.now in
    let path : List (List ℕ) = c.args.path.now in
    let parent : List (List ℕ) = c.in_ok-parent.parent in
    let asked : c.in_ok-prim.prim ≡ prim_of (get scene parent) = c.in_ok-prim.ensures.value ∙ ap (λ (s : Scene). prim_of (get s parent)) c.inherited_at.ensures.same_scene in
    let deep : 2 ≤ length path = omega (arith, c.depth.ensures.names, c.if-depth-lt2.false) in
    let all : prim_values c.in_ok-prim.prim ∷ ancestors scene parent ≡ ancestors scene path = ancestors-parent scene path parent c.in_ok-prim.prim deep c.in_ok-parent.ensures asked in
    IfOk-weaker c.for_children_of.result _ _ (λ i f. ◌∙◌ {b = inherited_from (prim_values c.in_ok-prim.prim ∷ ancestors scene parent)} (f (ancestors scene parent) c.in_ok-above.ensures.value) (ap inherited_from all)) c.for_children_of.ensures
