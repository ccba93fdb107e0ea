-- The values of merged scenes.
use Rattle.std.proofs.Common.{◌≡◌, ℕ, Bool, true, false, if◌then◌else◌, suc, List, [], ◌∷◌, Option, Some, None, IsTrue, option_and_then, refl, sym, ◌∙◌, ap, arith}
use Rattle.std.specs.Prelude.{All}
use Rattle.std.specs.List.{cons_option}
use Rattle.std.specs.FinMap.{get, keys}
use Rattle.hd_value.specs.declared.value.Value.{Value}
use Rattle.hd_value.specs.LocatorSets.{touches}
use Rattle.hd_value.specs.Maps.{overlaid_at}
use Rattle.hd_scene.specs.Scenes.{Scene, value_at, SceneConforms}
use Rattle.hd_scene.specs.declared.prims.Entry.{Entry}
use Rattle.hd_merging.specs.Merges.{merged_entry, prims_at, merged_scene}
use Rattle.hd_merging.specs.inner.MergedScenes.{get-overlaid, get-merged}
use Rattle.hd_merging.proofs.Together.{values_of}
use Rattle.hd_path.specs.Paths.{Path}
use Rattle.hd_tokens.specs.Locators.{Locator}

-- a value of a merged scene
pub value_at-merged : (ss : List Scene) (path : Path) (at : Locator) → value_at (merged_scene ss) path at ≡ overlaid_at (values_of (prims_at ss path)) at
value_at-merged ss path at = ap (option_and_then (λ (e : Entry). get e.values at)) (get-merged ss path) ∙ together (prims_at ss path)
  where
    together : (es : List Entry) → option_and_then (λ (e : Entry). get e.values at) (merged_entry es) ≡ overlaid_at (values_of es) at
    together [] = refl
    together (e ∷ es) = get-overlaid (values_of (e ∷ es)) at

-- a value of any of the scenes
value_of_one : (may_stand : List (List ℕ) → Value → Bool) (ss : List Scene) → All (SceneConforms may_stand) ss → (path : Path) (at : Locator) (v : Value)
    → overlaid_at (values_of (prims_at ss path)) at ≡ Some v → IsTrue (may_stand at v)
value_of_one may_stand [] all path at v h = absurd (none_is_not h)
  where
    none_is_not : None ≡ Some v → ⊥
    none_is_not e = cc
value_of_one may_stand (s ∷ ss) all path at v h =
    let rest : overlaid_at (values_of (prims_at ss path)) at ≡ Some v → IsTrue (may_stand at v) = value_of_one may_stand ss (λ k d l. all (suc k) d (omega arith)) path at v in
    elim (get s path) as (λ (o : Option Entry). get s path ≡ o → overlaid_at (values_of (cons_option o (prims_at ss path))) at ≡ Some v → IsTrue (may_stand at v)) [
      | None ↦ λ _ later. rest later
      | Some e ↦ λ there. elim (touches (keys e.values) at) as (λ b. (if b then get e.values at else overlaid_at (values_of (prims_at ss path)) at) ≡ Some v → IsTrue (may_stand at v)) [
        | true ↦ λ here. all 0 s (omega arith) path e there at v here
        | false ↦ λ later. rest later
      ]
    ] refl h

pub merged_conforms : (may_stand : List (List ℕ) → Value → Bool) (ss : List Scene) → All (SceneConforms may_stand) ss → SceneConforms may_stand (merged_scene ss)
merged_conforms may_stand ss all path e there at v is =
    value_of_one may_stand ss all path at v (sym (value_at-merged ss path at) ∙ ap (option_and_then (λ (d : Entry). get d.values at)) there ∙ is)
