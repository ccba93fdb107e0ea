-- The prims on the way to a path.
use Rattle.std.proofs.Common.{◌≡◌, ℕ, zero, suc, ◌+◌, ◌-◌, ◌≤◌, List, [], ◌∷◌, ◌++◌, length, take, map, is_some, IsSome, refl, sym, ◌∙◌, ap, subst, arith, take_all}
use Rattle.std.specs.FinMap.{get}
use Rattle.hd_path.specs.Names.{Name}
use Rattle.hd_path.specs.Paths.{Path}
use Rattle.hd_path.proofs.Logic.{true_is_not}
use Rattle.hd_value.specs.Maps.{Map}
use Rattle.hd_scene.specs.Scenes.{Scene, IsClosed}
use Rattle.hd_flattening.specs.Flat.{values_at, values_up, ancestors}
use Rattle.hd_attributes.specs.Inherited.{first_names, way_to}

-- the scene has a prim at each of the paths
abbrev pub AreThere : Scene → List Path → Type 0
AreThere scene [] = Unit {0}
AreThere scene (path ∷ paths) = IsSome (get scene path) × AreThere scene paths

-- a path and the next one on the way, from the names before both
two_more : {P : Type 0} (n : ℕ) (path : Path) → suc (suc n) ≤ length path → ((front : Path) (name below : Name) → take (suc n) path ≡ front ++ name ∷ [] → take (suc (suc n)) path ≡ front ++ name ∷ below ∷ [] → P) → P
two_more n [] long k = absurd (omega (arith, long))
two_more n (x ∷ []) long k = absurd (omega (arith, long))
two_more zero (x ∷ y ∷ path) long k = k [] x y refl refl
two_more (suc n) (x ∷ y ∷ path) long k = two_more n (y ∷ path) (omega (arith, long)) (λ front name below one two. k (x ∷ front) name below (ap (λ (p : Path). x ∷ p) one) (ap (λ (p : Path). x ∷ p) two))

-- each prim has its parent, and so all on the way to it
there_above : (scene : Scene) → IsClosed scene → (path : Path) → IsSome (get scene path) → (left n : ℕ) → suc n + left ≡ length path → IsSome (get scene (take (suc n) path))
there_above scene closed path there zero n is = subst (λ (p : Path). IsSome (get scene p)) (sym (take_all (suc n) path (omega (arith, is)))) there
there_above scene closed path there (suc left) n is =
    two_more n path (omega (arith, is)) (λ front name below one two.
    let next : IsSome (get scene (take (suc (suc n)) path)) = there_above scene closed path there left (suc n) (omega (arith, is)) in
    subst (λ (p : Path). IsSome (get scene p)) (sym one) (closed.parents front name below (subst (λ (p : Path). IsSome (get scene p)) two next)))

names_there : (scene : Scene) → IsClosed scene → (path : Path) → IsSome (get scene path) → (n : ℕ) → n ≤ length path → AreThere scene (first_names path n)
names_there scene closed path there zero within = tt
names_there scene closed path there (suc n) within =
    (there_above scene closed path there (length path - suc n) n (omega (arith, within)), names_there scene closed path there n (omega (arith, within)))

-- all prims on the way are there
pub way_there : (scene : Scene) → IsClosed scene → (path : Path) → IsSome (get scene path) → AreThere scene (way_to path)
way_there scene closed path there = names_there scene closed path there (length path) (omega arith)

values_on : (scene : Scene) (path : Path) (n : ℕ) → values_up scene path n ≡ map (values_at scene) (first_names path n)
values_on scene path zero = refl
values_on scene path (suc n) = ap (λ (ms : List Map). values_at scene (take (suc n) path) ∷ ms) (values_on scene path n)

-- the values of a prim and of those above it are those on the way
pub values_on_way : (scene : Scene) → IsClosed scene → (path : Path) → IsSome (get scene path) → values_at scene path ∷ ancestors scene path ≡ map (values_at scene) (way_to path)
values_on_way scene closed [] there = true_is_not (sym there ∙ ap is_some closed.no_root)
values_on_way scene closed (name ∷ path) there =
    let n : ℕ = length path in
    ap (λ (p : Path). values_at scene p ∷ ancestors scene (name ∷ path)) (sym (take_all (suc n) (name ∷ path) (omega arith)))
    ∙ ap (λ (k : ℕ). values_at scene (take (suc n) (name ∷ path)) ∷ values_up scene (name ∷ path) k) (omega arith)
    ∙ values_on scene (name ∷ path) (suc n)
