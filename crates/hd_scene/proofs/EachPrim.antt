-- What a scene has where each of its prims is changed.
use Rattle.std.proofs.Common.{◌≡◌, true, false, cond, List, [], ◌∷◌, ◌++◌, Option, Some, None, is_some, map, refl, sym, ◌∙◌, ap}
use Rattle.std.specs.Option.{option_map}
use Rattle.std.specs.Ordering.{eq_by_cmp}
use Rattle.std.specs.FinMap.{get, find, entries, get-from_entries, get-entries}
use Rattle.std.proofs.lemmas.Map.Views.{tells_apart}
use Rattle.hd_path.specs.Paths.{Path, path_cmp}
use Rattle.hd_path.proofs.Logic.{none_there}
use Rattle.hd_scene.specs.Scenes.{Scene, IsClosed, with_each_prim}
use Rattle.hd_scene.specs.declared.prims.Entry.{Entry}
use Rattle.hd_scene.proofs.Children.{path_cmp_total, path_cmp_exact}

-- look-up where the entries are mapped
find-mapped : (change : Path → Entry → Entry) (es : List (Path × Entry)) (q : Path)
    → find path_cmp q (map (λ (e : Path × Entry). (e.0, change e.0 e.1)) es) ≡ option_map (change q) (find path_cmp q es)
find-mapped change [] q = refl
find-mapped change (e ∷ es) q =
    elim (eq_by_cmp path_cmp q e.0) as (λ b. eq_by_cmp path_cmp q e.0 ≡ b →
    cond b (Some (change e.0 e.1)) (find path_cmp q (map (λ (e : Path × Entry). (e.0, change e.0 e.1)) es)) ≡ option_map (change q) (cond b (Some e.1) (find path_cmp q es))) [
      | true ↦ λ t. ap (λ (z : Path). Some (change z e.1)) (sym (tells_apart path_cmp_exact q e.0 t))
      | false ↦ λ t. find-mapped change es q
    ] refl

pub get-with_each_prim : (change : Path → Entry → Entry) (scene : Scene) (q : Path) → get (with_each_prim change scene) q ≡ option_map (change q) (get scene q)
get-with_each_prim change scene q = get-from_entries path_cmp_total _ q ∙ find-mapped change (entries scene) q ∙ ap (option_map (change q)) (sym (get-entries scene q))

pub is_some-map : {A B : Type 0} (f : A → B) (o : Option A) → is_some (option_map f o) ≡ is_some o
is_some-map f None = refl
is_some-map f (Some x) = refl

-- a scene with the paths of a closed one is closed
pub same_paths_closed : (old new : Scene) → ((q : Path) → is_some (get new q) ≡ is_some (get old q)) → IsClosed old → IsClosed new
same_paths_closed old new there closed = record {
  no_root = none_there (get new []) (there [] ∙ ap is_some closed.no_root);
  parents = λ path name below has. there (path ++ name ∷ []) ∙ closed.parents path name below (sym (there (path ++ name ∷ below ∷ [])) ∙ has);
  paths = λ path has. closed.paths path (sym (there path) ∙ has);
}
