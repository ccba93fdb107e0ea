-- Ancestors of paths, and flat scenes prim by prim.
use Rattle.std.proofs.Common.{◌≡◌, ℕ, zero, suc, ◌-◌, ◌≤◌, List, [], ◌∷◌, ◌++◌, length, take, Option, Some, None, refl, ap, sym, ◌∙◌, arith}
use Rattle.std.specs.Option.{option_map, option_map_or}
use Rattle.std.proofs.lemmas.List.{take-take, length-take-le}
use Rattle.std.specs.FinMap.{get, empty}
use Rattle.hd_value.specs.Maps.{Map}
use Rattle.hd_scene.specs.Scenes.{Scene, prim_of, children_of}
use Rattle.hd_scene.specs.declared.prims.Entry.{Entry}
use Rattle.hd_scene.specs.declared.prims.Primitive.{Primitive}
use Rattle.hd_scene.proofs.Children.{AreChildren-children_of, children_of-unique}
use Rattle.hd_flattening.specs.Flat.{values_at, values_up, ancestors}
use Rattle.hd_flattening.specs.Flattened.{flat_entry, flattened_scene}
use Rattle.hd_flattening.specs.inner.Inheriting.{prim_values}
use Rattle.hd_flattening.specs.Scenes.{get-flattened, there-flattened}
use Rattle.hd_path.specs.Paths.{Path}

-- flattening leaves the children as they are
pub children_of-flattened : (scene : Scene) (path : Path) → children_of (flattened_scene scene) path ≡ children_of scene path
children_of-flattened scene path =
    let below = AreChildren-children_of scene path in
    sym (children_of-unique (flattened_scene scene) path (children_of scene path) (record {
      ascending = below.ascending;
      there = λ name. (λ c. there-flattened scene (path ++ name ∷ []) ∙ (below.there name).0 c, λ t. (below.there name).1 (sym (there-flattened scene (path ++ name ∷ [])) ∙ t));
    }))

values_up-take : (scene : Scene) (path : Path) (k n : ℕ) → n ≤ k → values_up scene (take k path) n ≡ values_up scene path n
values_up-take scene path k zero within = refl
values_up-take scene path k (suc n) within =
    ap (λ (q : Path). values_at scene q ∷ values_up scene (take k path) n) (take-take (suc n) k path within)
    ∙ ap (λ (above : List Map). values_at scene (take (suc n) path) ∷ above) (values_up-take scene path k n (omega arith))

-- the values of a prim, where it is there
pub prim_values-prim_of : (o : Option Entry) → prim_values (prim_of o) ≡ option_map_or (λ (e : Entry). e.values) o empty
prim_values-prim_of None = refl
prim_values-prim_of (Some e) = refl

-- a path's ancestors are its parent and the ancestors of that
pub ancestors-parent : (scene : Scene) (path parent : Path) (prim : Primitive) → 2 ≤ length path → parent ≡ take (length path - 1) path → prim ≡ prim_of (get scene parent)
    → prim_values prim ∷ ancestors scene parent ≡ ancestors scene path
ancestors-parent scene path parent prim deep is asked =
    let n : ℕ = length path - 2 in
    let more : length path - 1 ≡ suc n = omega arith in
    let above : parent ≡ take (suc n) path = is ∙ ap (λ (k : ℕ). take k path) more in
    let shorter : length parent - 1 ≡ n = ap (λ (q : Path). length q - 1) above ∙ ap (λ (k : ℕ). k - 1) (length-take-le (suc n) path (omega arith)) ∙ omega arith in
    let first : prim_values prim ≡ values_at scene (take (suc n) path) = ap prim_values asked ∙ prim_values-prim_of (get scene parent) ∙ ap (values_at scene) above in
    let rest : ancestors scene parent ≡ values_up scene path n = ap (values_up scene parent) shorter ∙ ap (λ (q : Path). values_up scene q n) above ∙ values_up-take scene path (suc n) n (omega arith) in
    ap (λ (m : Map). m ∷ ancestors scene parent) first
    ∙ ap (λ (ms : List Map). values_at scene (take (suc n) path) ∷ ms) rest
    ∙ ap (values_up scene path) (sym more)

-- what is answered for a path of a flat scene, where the scene has a prim there, and where it has none
pub flat_there : (scene : Scene) (path : Path) (e : Entry) → get scene path ≡ Some e → prim_of (Some (flat_entry scene path e)) ≡ prim_of (get (flattened_scene scene) path)
flat_there scene path e there = sym (ap prim_of (get-flattened scene path ∙ ap (option_map (flat_entry scene path)) there))

pub flat_absent : (scene : Scene) (path : Path) → get scene path ≡ None → prim_of None ≡ prim_of (get (flattened_scene scene) path)
flat_absent scene path absent = sym (ap prim_of (get-flattened scene path ∙ ap (option_map (flat_entry scene path)) absent))
