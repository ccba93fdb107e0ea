-- The scene without prims.
use Rattle.std.specs.Prelude.{◌≡◌, true, false, List, [], ◌∷◌, ◌++◌, length, map, IsSome, Option, refl}
use Rattle.std.specs.List.{filter_map}
use Rattle.std.specs.FinMap.{get, empty, entries, get-empty, len-empty, len-entries}
use Rattle.std.proofs.Common.{subst, sym, ◌∙◌, ap}
use Rattle.hd_path.specs.Paths.{Path, path_cmp}
use Rattle.hd_scene.specs.Scenes.{Scene, child_name, children_of, IsClosed}
use Rattle.hd_scene.specs.declared.prims.Entry.{Entry}

abbrev no_prims : Scene
no_prims = empty

nothing_there : (path : Path) → IsSome (get no_prims path) → ⊥
nothing_there path there = by (subst (λ (o : Option Entry). IsSome o) (get-empty path_cmp path) there)
  where
    by : false ≡ true → ⊥
    by e = cc

pub no_prims_closed : IsClosed empty
no_prims_closed = record {
  no_root = get-empty path_cmp [];
  parents = λ path name below there. absurd (nothing_there (path ++ name ∷ below ∷ []) there);
  paths = λ path there. absurd (nothing_there path there);
}

no_items : {X : Type 0} (xs : List X) → length xs ≡ 0 → xs ≡ []
no_items [] none = refl
no_items (x ∷ xs) none = absurd (cc)

pub no_entries : entries no_prims ≡ []
no_entries = no_items (entries no_prims) (sym (len-entries no_prims) ∙ len-empty path_cmp Entry)

-- no prim is below a path
pub no_children : (path : Path) → children_of no_prims path ≡ []
no_children path = ap (λ (es : List (Path × Entry)). filter_map (child_name path) (map (λ e. e.0) es)) no_entries
