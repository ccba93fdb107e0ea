-- A scene is a finite map from paths to prims.
use Rattle.std.specs.Prelude.{◌≡◌, ℕ, ◌+◌, ◌-◌, ◌^◌, min, if◌then◌else◌, ◌↔◌, List, [], ◌∷◌, ◌++◌, map, Contains, Bool, Option, Some, None, IsSome, option_and_then, refl}
use Rattle.std.specs.Option.{option_map}
use Rattle.std.specs.List.{filter_map}
use Rattle.std.specs.List.Sorted.{IsStrictlySortedBy}
use Rattle.std.specs.Ordering.{nat_cmp}
use Rattle.std.specs.Cmp.Lexicographic.{slice_cmp}
use Rattle.std.specs.Coded.{Coded, code_by, coded×, coded_ℕ, coded_list}
use Rattle.std.specs.FinMap.{FinMap, code, get, keys, entries, from_entries}
use Rattle.hd_path.specs.Paths.{Path, IsPath, path_cmp}
use Rattle.hd_value.specs.declared.value.Value.{Value}
use Rattle.hd_path.specs.Names.{Name, is_same}
use Rattle.hd_value.specs.Maps.{Map, map_code}
use Rattle.hd_value.specs.Schema.{Conforms}
use Rattle.hd_scene.specs.declared.prims.Entry.{Entry}
use Rattle.hd_scene.specs.declared.prims.Primitive.{Primitive}
use Rattle.hd_tokens.specs.Locators.{Locator}

abbrev pub Scene : Type 0
Scene = FinMap path_cmp Entry

abbrev pub entry_code : Coded Entry
entry_code = code_by (Name × Map) (coded× (coded_list coded_ℕ) map_code) (λ e. (e.kind, e.values)) (λ p. record { kind = p.0; values = p.1 }) (λ _. refl)

abbrev pub scene_code : Coded Scene
scene_code = code (coded_list (coded_list coded_ℕ)) entry_code

-- the kind at a path
abbrev pub kind_at : Scene → Path → Option Name
kind_at scene path = option_map (λ (e : Entry). e.kind) (get scene path)

-- the value at a locator of the prim at a path
abbrev pub value_at : Scene → Path → Locator → Option Value
value_at scene path at = option_and_then (λ (e : Entry). get e.values at) (get scene path)

-- what is answered for a path: where no prim is, the empty kind and no values
abbrev pub prim_of : Option Entry → Primitive
prim_of None = record { kind = []; values = None }
prim_of (Some e) = record { kind = e.kind; values = Some e.values }

-- the last name of a path that is the other one and one more name
abbrev pub child_name : Path → Path → Option Name
child_name [] [] = None
child_name [] (name ∷ []) = Some name
child_name [] (name ∷ below ∷ names) = None
child_name (x ∷ parent) [] = None
child_name (x ∷ parent) (y ∷ path) = if is_same x y then child_name parent path else None

-- the names of the prims immediately below a path, in the order of their paths
abbrev pub children_of : Scene → Path → List Name
children_of scene path = filter_map (child_name path) (keys scene)

-- the names are those of the prims immediately below the path, each once and in byte order
pub record AreChildren (scene : Scene) (path : Path) (names : List Name) : Type 0 where
  pub ascending : IsStrictlySortedBy (slice_cmp nat_cmp) names
  pub there : (name : Name) → Contains names name ↔ IsSome (get scene (path ++ name ∷ []))

-- the root is in no scene, a prim has its parent there too, and a path of at most 32 names
pub record IsClosed (scene : Scene) : Type 0 where
  pub no_root : get scene [] ≡ None
  pub parents : (path : Path) (name below : Name) → IsSome (get scene (path ++ name ∷ below ∷ [])) → IsSome (get scene (path ++ name ∷ []))
  pub paths : (path : Path) → IsSome (get scene path) → IsPath path

-- the scene with each prim changed, by what is there and its path
abbrev pub with_each_prim : (Path → Entry → Entry) → Scene → Scene
with_each_prim change scene = from_entries (map (λ (e : Path × Entry). (e.0, change e.0 e.1)) (entries scene))

-- each value of each prim may be where it is
abbrev pub SceneConforms : (Locator → Value → Bool) → Scene → Type 0
SceneConforms may_be scene = (path : Path) (e : Entry) → get scene path ≡ Some e → Conforms may_be e.values

-- one more, or the greatest number
abbrev pub saturating_succ : ℕ → ℕ
saturating_succ n = min (n + 1) (2 ^ 64 - 1)
