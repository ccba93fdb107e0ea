-- Instanced scenes prim by prim.
use Rattle.std.proofs.Common.{◌≡◌, ◌≢◌, ◌↔◌, Bool, true, false, not, ◌&&◌, ◌||◌, cond, List, [], ◌∷◌, ◌++◌, Option, Some, None, is_some, refl, sym, ◌∙◌, ap, subst}
use Rattle.std.specs.Prelude.{filter, Any, codes}
use Rattle.std.specs.List.{list_any}
use Rattle.std.specs.Option.{option_map, option_map_or}
use Rattle.std.specs.Cmp.{eq_by_cmp_equiv}
use Rattle.std.specs.FinMap.{get, keys, contains_key-keys, same_map}
use Rattle.std.proofs.lemmas.List.Kept.{IsStrictlySortedBy-filter}
use Rattle.std.proofs.lemmas.List.Folds.{Any-from_list_any, list_any-from_Any}
use Rattle.std.proofs.lemmas.Map.Views.{Contains-from_any, list_any-from_Contains, tells_apart}
use Rattle.hd_path.specs.Names.{Name}
use Rattle.hd_path.specs.Paths.{Path, path_cmp, is_prefix}
use Rattle.hd_path.proofs.NamePrefixes.{and_true}
use Rattle.hd_tokens.specs.Locators.{Locator, reset_at, instanced_by_at}
use Rattle.hd_value.specs.declared.value.Value.{Value}
use Rattle.hd_value.specs.declared.value.Value.TheVariants.{Flag, Paths}
use Rattle.hd_value.specs.Maps.{Map, set_at, IsFree}
use Rattle.hd_value.specs.Schema.{is_authored, is_instanced, allows, instanced_by_row, reset_row, IsAuthored, IsInstanced}
use Rattle.hd_value.proofs.Getting.{eqk, eqk_same}
use Rattle.hd_value.proofs.Setting.{get-set_at}
use Rattle.hd_scene.specs.Scenes.{Scene, prim_of, children_of, SceneConforms}
use Rattle.hd_scene.specs.declared.prims.Entry.{Entry}
use Rattle.hd_scene.specs.declared.prims.Primitive.{Primitive}
use Rattle.hd_scene.proofs.Ascending.{keys_ascend}
use Rattle.hd_scene.proofs.Children.{path_cmp_total, path_cmp_exact, AreChildren-children_of, children_of-unique}
use Rattle.hd_instancing.specs.Targets.{is_instancer, targets_of, targets_at, has_target, is_root, instances, instanced_by}
use Rattle.hd_instancing.specs.Instanced.{with_reset, with_instancers, instanced_values, instanced_entry, instanced_scene, instanced_primitive}
use Rattle.hd_instancing.specs.Scenes.{get-instanced, there-instanced}
use Rattle.hd_instancing.specs.inner.Tables.{is_among}
use Rattle.hd_instancing.specs.Laws.{InstancersAscend, InstancersHaveTargets, NoTargetsInstanceNothing, StaysWithoutInstancers, InstancedConforms}
use Rattle.hd_instancing.proofs.Pairs.{among_filter}
use Rattle.hd_instancing.proofs.Prefixed.{any_same, filter_same}

-- instancing leaves the children as they are
pub children_of-instanced : (scene : Scene) (path : Path) → children_of (instanced_scene scene) path ≡ children_of scene path
children_of-instanced scene path =
    let below = AreChildren-children_of scene path in
    sym (children_of-unique (instanced_scene scene) path (children_of scene path) (record {
      ascending = below.ascending;
      there = λ name. (λ c. there-instanced scene (path ++ name ∷ []) ∙ (below.there name).0 c, λ t. (below.there name).1 (sym (there-instanced scene (path ++ name ∷ [])) ∙ t));
    }))

-- what is at a path of an instanced scene
pub instanced_primitive-prim_of : (scene : Scene) (path : Path) → instanced_primitive (is_root scene path) (instanced_by scene path) (prim_of (get scene path)) ≡ prim_of (get (instanced_scene scene) path)
instanced_primitive-prim_of scene path = same (get scene path) ∙ ap prim_of (sym (get-instanced scene path))
  where
    same : (o : Option Entry) → instanced_primitive (is_root scene path) (instanced_by scene path) (prim_of o) ≡ prim_of (option_map (instanced_entry scene path) o)
    same None = refl
    same (Some e) = refl

-- the values at a path of a scene that conforms conform
pub prim_conforms : (scene : Scene) (path : Path) (prim : Primitive) (values : Map) → SceneConforms is_authored scene → prim ≡ prim_of (get scene path) → prim.values ≡ Some values → IsAuthored values
prim_conforms scene path prim values conforms asked there =
    by (get scene path) (conforms path) (ap (λ (p : Primitive). p.values) (sym asked) ∙ there)
  where
    by : (o : Option Entry) → ((e : Entry) → o ≡ Some e → IsAuthored e.values) → (prim_of o).values ≡ Some values → IsAuthored values
    by None fits is = absurd (cc)
    by (Some e) fits is = let one : e.values ≡ values = cc in subst IsAuthored one (fits e refl)

-- ---- places for what instancing adds

none_authored : (m : Map) (at : Locator) → IsAuthored m → ((v : Value) → is_authored at v ≡ false) → get m at ≡ None
none_authored m at authored nowhere_authored =
    elim (get m at) as (λ o. get m at ≡ o → o ≡ None) [
      | None ↦ λ _. refl
      | Some v ↦ λ there. absurd (let y : is_authored at v ≡ true = authored at v there in let n : is_authored at v ≡ false = nowhere_authored v in cc)
    ] refl

-- no authored value is above the mark of a root
pub reset_free : (m : Map) → IsAuthored m → IsFree m reset_at
reset_free m authored [] rest is some = none_authored m [] authored (λ v. refl)
reset_free m authored (x ∷ []) rest is some =
    let first : codes "xform" ≡ x = cc in
    none_authored m (x ∷ []) authored (λ v. subst (λ (w : Name). is_authored (w ∷ []) v ≡ false) first refl)
reset_free m authored (x ∷ y ∷ front) rest is some = absurd (some (nothing front rest cc))
  where
    nothing : (front rest : Path) → [] ≡ front ++ rest → rest ≡ []
    nothing [] rest e = sym e
    nothing (z ∷ front) rest e = cc

-- a value at a locator of one token is below the empty locator alone
pub instancers_free : (m : Map) → get m [] ≡ None → IsFree m instanced_by_at
instancers_free m none [] rest is some = none
instancers_free m none (x ∷ front) rest is some = absurd (some (nothing front rest cc))
  where
    nothing : (front rest : Path) → [] ≡ front ++ rest → rest ≡ []
    nothing [] rest e = sym e
    nothing (z ∷ front) rest e = cc

-- the instancers are put where there are any
pub some_put : (instancers : List Path) (m : Map) → instancers ≢ [] → set_at m instanced_by_at (Paths instancers) ≡ with_instancers instancers m
some_put [] m some = absurd (some refl)
some_put (i ∷ is) m some = refl

-- ---- laws

pub ascend : InstancersAscend
ascend scene path = IsStrictlySortedBy-filter path_cmp (λ i. instances scene i path) (keys scene) (keys_ascend scene)

is_there : (scene : Scene) (instancer path : Path) → instances scene instancer path ≡ true → is_some (get scene instancer) ≡ true
is_there scene instancer path h = by (get scene instancer) h
  where
    by : (o : Option Entry) → list_any (λ t. is_prefix t path) (option_map_or targets_of o []) ≡ true → is_some o ≡ true
    by None h = cc
    by (Some e) h = refl

pub targets_above : InstancersHaveTargets
targets_above scene path instancer = (
  λ among.
      let found : is_among instancer (instanced_by scene path) ≡ true = list_any-from_Contains (eq_by_cmp_equiv path_cmp_total) instancer (instanced_by scene path) among in
      let has : instances scene instancer path ≡ true = (and_true _ _ (sym (among_filter (λ i. instances scene i path) (keys scene) instancer) ∙ found)).0 in
      Any-from_list_any (λ t. is_prefix t path) (targets_at scene instancer) has,
  λ some.
      let has : instances scene instancer path ≡ true = list_any-from_Any (λ t. is_prefix t path) (targets_at scene instancer) some in
      let key : is_among instancer (keys scene) ≡ true = sym (contains_key-keys scene instancer) ∙ is_there scene instancer path has in
      Contains-from_any (λ x y e. tells_apart path_cmp_exact x y e) instancer (instanced_by scene path)
      (among_filter (λ i. instances scene i path) (keys scene) instancer ∙ ap (λ b. b && is_among instancer (keys scene)) has ∙ key),
)

pub no_targets : NoTargetsInstanceNothing
no_targets scene instancer path none = ap (list_any (λ t. is_prefix t path)) none

never : (ks : List Path) → list_any (λ (_ : Path). false) ks ≡ false
never [] = refl
never (k ∷ ks) = never ks

nowhere : (ks : List Path) → filter (λ (_ : Path). false) ks ≡ []
nowhere [] = refl
nowhere (k ∷ ks) = nowhere ks

pub stays : StaysWithoutInstancers
stays scene plain = same_map path_cmp_total path_cmp_exact (instanced_scene scene) scene (λ q. get-instanced scene q ∙ by q (get scene q))
  where
    no_target : (i : Path) → targets_at scene i ≡ []
    no_target i = of (get scene i) (plain i)
      where
        of : (o : Option Entry) → ((e : Entry) → o ≡ Some e → is_instancer e.kind ≡ false) → option_map_or targets_of o [] ≡ []
        of None h = refl
        of (Some e) h = ap (λ b. cond b (paths_in e) []) (h e refl)
          where
            paths_in : Entry → List Path
            paths_in f = Rattle.hd_instancing.specs.Targets.paths_of (get f.values Rattle.hd_tokens.specs.Locators.prototypes_at)

    no_root : (q : Path) → is_root scene q ≡ false
    no_root q = any_same (λ i. has_target scene i q) (λ _. false) (keys scene) (λ i. ap (list_any (λ t. Rattle.hd_scene.specs.Tells.is_same_path t q)) (no_target i)) ∙ never (keys scene)

    none : (q : Path) → instanced_by scene q ≡ []
    none q = filter_same (λ i. instances scene i q) (λ _. false) (keys scene) (λ i. ap (list_any (λ t. is_prefix t q)) (no_target i)) ∙ nowhere (keys scene)

    by : (q : Path) (o : Option Entry) → option_map (instanced_entry scene q) o ≡ o
    by q None = refl
    by q (Some e) =
        ap (λ b. Some (record { kind = e.kind; values = instanced_values b (instanced_by scene q) e.values })) (no_root q)
        ∙ ap (λ (is : List Path). Some (record { kind = e.kind; values = instanced_values false is e.values })) (none q)

-- ---- conforming

instanced_from : (at : Locator) (v : Value) → is_authored at v ≡ true → is_instanced at v ≡ true
instanced_from at v h = ap (λ b. b || allows (instanced_by_row ∷ reset_row ∷ []) at v) h

set_conforms : (m : Map) (at : Locator) (v : Value) → is_instanced at v ≡ true → IsInstanced m → IsInstanced (set_at m at v)
set_conforms m at v fits conforms q w there =
    elim (eqk q at) as (λ b. eqk q at ≡ b → cond b (Some v) (cond (not (is_prefix at q)) (get m q) None) ≡ Some w → is_instanced q w ≡ true) [
      | true ↦ λ here is. let one : v ≡ w = cc in subst (λ (z : Value). is_instanced q z ≡ true) one (ap (λ (z : Locator). is_instanced z v) (eqk_same q at here) ∙ fits)
      | false ↦ λ _. elim (is_prefix at q) as (λ b. cond (not b) (get m q) None ≡ Some w → is_instanced q w ≡ true) [
        | true ↦ λ is. absurd (cc)
        | false ↦ λ is. conforms q w is
      ]
    ] refl (sym (get-set_at m at v q) ∙ there)

or_true : (b : Bool) → (b || true) ≡ true
or_true true = refl
or_true false = refl

with_reset_conforms : (root : Bool) (m : Map) → IsInstanced m → IsInstanced (with_reset root m)
with_reset_conforms true m h = set_conforms m reset_at (Flag true) (or_true (is_authored reset_at (Flag true))) h
with_reset_conforms false m h = h

with_instancers_conforms : (instancers : List Path) (m : Map) → IsInstanced m → IsInstanced (with_instancers instancers m)
with_instancers_conforms [] m h = h
with_instancers_conforms (i ∷ is) m h = set_conforms m instanced_by_at (Paths (i ∷ is)) (or_true (is_authored instanced_by_at (Paths (i ∷ is)))) h

pub conforms : InstancedConforms
conforms scene authored path e there = by (get scene path) (authored path) (sym (get-instanced scene path) ∙ there)
  where
    by : (o : Option Entry) → ((f : Entry) → o ≡ Some f → IsAuthored f.values) → option_map (instanced_entry scene path) o ≡ Some e → IsInstanced e.values
    by None fits is = absurd (cc)
    by (Some f) fits is =
        let one : instanced_values (is_root scene path) (instanced_by scene path) f.values ≡ e.values = cc in
        subst IsInstanced one
        (with_instancers_conforms (instanced_by scene path) (with_reset (is_root scene path) f.values)
        (with_reset_conforms (is_root scene path) f.values (λ at v is. instanced_from at v (fits f refl at v is))))
