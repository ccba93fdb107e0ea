-- Containers of which no value is above one of another container.
use Rattle.std.proofs.Common.{◌≡◌, Bool, true, false, ◌&&◌, ◌||◌, if◌then◌else◌, suc, List, [], ◌∷◌, ◌++◌, Option, Some, None, is_some, IsTrue, option_and_then, refl, sym, ◌∙◌, ap, subst, arith}
use Rattle.std.proofs.lemmas.List.{map-append}
use Rattle.std.proofs.lemmas.List.Elements.{filter_map-append}
use Rattle.std.specs.Prelude.{All}
use Rattle.std.specs.List.{AllByRecursion, list_any, cons_option}
use Rattle.std.specs.Option.{option_or}
use Rattle.std.specs.Ordering.{eq_by_cmp, is_eq}
use Rattle.std.specs.Cmp.{tied_itself, both_ways}
use Rattle.std.specs.FinMap.{get, keys, contains_key-keys, same_map}
use Rattle.hd_value.specs.declared.value.Value.{Value}
use Rattle.hd_value.specs.inner.Falls.{locators_total, locators_tie}
use Rattle.hd_value.specs.Locators.{intersects}
use Rattle.hd_value.specs.LocatorSets.{touches}
use Rattle.hd_value.specs.Maps.{Map, overlaid_at}
use Rattle.hd_value.specs.Schema.{Conforms}
use Rattle.hd_value.proofs.Overlaying.{untouched}
use Rattle.hd_path.proofs.NamePrefixes.{same_itself}
use Rattle.hd_path.specs.Paths.{Path, path_cmp, is_prefix}
use Rattle.hd_path.proofs.Logic.{true_is_not}
use Rattle.hd_scene.specs.Scenes.{Scene, value_at, SceneConforms}
use Rattle.hd_scene.specs.declared.prims.Entry.{Entry}
use Rattle.hd_scene.proofs.Closing.{is_equal}
use Rattle.hd_merging.specs.Merges.{overlay, first_kind, merged_prim, merged_entry, prims_at, merged_scene}
use Rattle.hd_merging.specs.inner.MergedScenes.{or_left, or_right, get-overlaid, get-merged}
use Rattle.hd_merging.specs.Laws.{IsUnnested, strongest_value}
use Rattle.hd_merging.proofs.Conforming.{value_at-merged}
use Rattle.hd_merging.proofs.Together.{same_parts, kinds_of, values_of}
use Rattle.hd_tokens.specs.Locators.{Locator}

none_is_not : (v : Value) → None ≡ Some v → ⊥
none_is_not v e = cc

-- the value that is there
found : (o : Option Value) → is_some o ≡ true → (v : Value) × (o ≡ Some v)
found None h = absurd (true_is_not (sym h))
found (Some v) h = (v, refl)

-- a value that intersects a locator is one that touches it
listed_touches : (ks : List Path) (k : Locator) (at : Locator) → list_any (eq_by_cmp path_cmp k) ks ≡ true → intersects k at ≡ true → touches ks at ≡ true
listed_touches [] k at there meets = there
listed_touches (x ∷ ks) k at there meets =
    elim (eq_by_cmp path_cmp k x) as (λ b. eq_by_cmp path_cmp k x ≡ b → (b || list_any (eq_by_cmp path_cmp k) ks) ≡ true → (intersects x at || touches ks at) ≡ true) [
      | true ↦ λ same _. or_left (intersects x at) (touches ks at) (subst (λ (q : Path). intersects q at ≡ true) (locators_tie k x (is_equal (path_cmp k x) same)) meets)
      | false ↦ λ _ later. or_right (intersects x at) (touches ks at) (listed_touches ks k at later meets)
    ] refl there

touches_by : (m : Map) (k : Locator) (at : Locator) (v : Value) → get m k ≡ Some v → intersects k at ≡ true → touches (keys m) at ≡ true
touches_by m k at v is meets = listed_touches (keys m) k at (sym (contains_key-keys m k) ∙ ap is_some is) meets

-- a value of a map that intersects the locator
pub record Touching (m : Map) (at : Locator) : Type 0 where
  pub key : Locator
  pub value : Value
  pub is : get m key ≡ Some value
  pub meets : intersects key at ≡ true

listed_key : (ks : List Path) (at : Locator) → touches ks at ≡ true → (k : Locator) × (list_any (eq_by_cmp path_cmp k) ks ≡ true) × (intersects k at ≡ true)
listed_key [] at h = absurd (true_is_not (sym h))
listed_key (x ∷ ks) at h =
    elim (intersects x at) as (λ b. intersects x at ≡ b → (b || touches ks at) ≡ true → (k : Locator) × (list_any (eq_by_cmp path_cmp k) (x ∷ ks) ≡ true) × (intersects k at ≡ true)) [
      | true ↦ λ meets _. (x, or_left (eq_by_cmp path_cmp x x) (list_any (eq_by_cmp path_cmp x) ks) (ap is_eq (tied_itself locators_total x)), meets)
      | false ↦ λ _ later.
          let rest = listed_key ks at later in
          (rest.0, or_right (eq_by_cmp path_cmp rest.0 x) (list_any (eq_by_cmp path_cmp rest.0) ks) rest.1, rest.2)
    ] refl h

touching : (m : Map) (at : Locator) → touches (keys m) at ≡ true → Touching m at
touching m at h =
    let listed = listed_key (keys m) at h in
    let there = found (get m listed.0) (contains_key-keys m listed.0 ∙ listed.1) in
    record { key = listed.0; value = there.0; is = there.1; meets = listed.2 }

begins_itself : (k : Locator) → is_prefix k k ≡ true
begins_itself [] = refl
begins_itself (x ∷ k) = ap (λ b. b && is_prefix k k) (same_itself x) ∙ begins_itself k

touches_itself : (m : Map) (k : Locator) (v : Value) → get m k ≡ Some v → touches (keys m) k ≡ true
touches_itself m k v is = touches_by m k k v is (or_left (is_prefix k k) (is_prefix k k) (begins_itself k))

first_kind-first : (ks js : Locator) → first_kind (first_kind ks ∷ js) ≡ first_kind (ks ++ js)
first_kind-first [] js = refl
first_kind-first ([] ∷ ks) js = first_kind-first ks js
first_kind-first ((letter ∷ kind) ∷ ks) js = refl

module _ (may_stand : Locator → Value → Bool) (unnested : IsUnnested may_stand) where
  -- values that conform, at locators that intersect, are at one locator
  one_locator : (a b : Locator) (v w : Value) → IsTrue (may_stand a v) → IsTrue (may_stand b w) → intersects a b ≡ true → a ≡ b
  one_locator a b v w may_a may_b meets =
      elim (is_prefix a b) as (λ t. is_prefix a b ≡ t → (t || is_prefix b a) ≡ true → a ≡ b) [
        | true ↦ λ down _. unnested a b v w may_a may_b down
        | false ↦ λ _ up. sym (unnested b a w v may_b may_a up)
      ] refl meets

  -- overlaid values conform
  overlaid_conforms : (ms : List Map) → AllByRecursion (Conforms may_stand) ms → (at : Locator) (v : Value) → overlaid_at ms at ≡ Some v → IsTrue (may_stand at v)
  overlaid_conforms [] conforms at v is = absurd (none_is_not v is)
  overlaid_conforms (m ∷ ms) conforms at v is =
      elim (touches (keys m) at) as (λ b. (if b then get m at else overlaid_at ms at) ≡ Some v → IsTrue (may_stand at v)) [
        | true ↦ λ here. conforms.0 at v here
        | false ↦ λ later. overlaid_conforms ms conforms.1 at v later
      ] is

  -- what intersects a value of one of the maps intersects an overlaid one
  overlaid_touching : (ms : List Map) → AllByRecursion (Conforms may_stand) ms → (at : Locator) → list_any (λ m. touches (keys m) at) ms ≡ true
      → (k : Locator) × (v : Value) × (overlaid_at ms k ≡ Some v) × (intersects k at ≡ true)
  overlaid_touching [] conforms at h = absurd (true_is_not (sym h))
  overlaid_touching (m ∷ ms) conforms at h =
      elim (touches (keys m) at) as (λ b. touches (keys m) at ≡ b → (b || list_any (λ n. touches (keys n) at) ms) ≡ true → (k : Locator) × (v : Value) × (overlaid_at (m ∷ ms) k ≡ Some v) × (intersects k at ≡ true)) [
        | true ↦ λ near _.
            let t : Touching m at = touching m at near in
            (t.key, t.value, ap (λ b. if b then get m t.key else overlaid_at ms t.key) (touches_itself m t.key t.value t.is) ∙ t.is, t.meets)
        | false ↦ λ far later.
            let rest = overlaid_touching ms conforms.1 at later in
            (rest.0, rest.1, kept rest.0 rest.1 rest.2 rest.3 far, rest.3)
      ] refl h
    where
      kept : (k : Locator) (v : Value) → overlaid_at ms k ≡ Some v → intersects k at ≡ true → touches (keys m) at ≡ false → overlaid_at (m ∷ ms) k ≡ Some v
      kept k v is meets far =
          elim (touches (keys m) k) as (λ b. touches (keys m) k ≡ b → (if b then get m k else overlaid_at ms k) ≡ Some v) [
            | false ↦ λ _. is
            | true ↦ λ near.
                let t : Touching m k = touching m k near in
                let same : t.key ≡ k = one_locator t.key k t.value v (conforms.0 t.key t.value t.is) (overlaid_conforms ms conforms.1 k v is) t.meets in
                absurd (true_is_not (sym (touches_by m k at t.value (ap (get m) (sym same) ∙ t.is) meets) ∙ far))
          ] refl

  -- and the other way round
  touching_one : (ms : List Map) (k : Locator) (at : Locator) (v : Value) → overlaid_at ms k ≡ Some v → intersects k at ≡ true → list_any (λ m. touches (keys m) at) ms ≡ true
  touching_one [] k at v is meets = absurd (none_is_not v is)
  touching_one (m ∷ ms) k at v is meets =
      elim (touches (keys m) k) as (λ b. (if b then get m k else overlaid_at ms k) ≡ Some v → (touches (keys m) at || list_any (λ n. touches (keys n) at) ms) ≡ true) [
        | true ↦ λ here. or_left (touches (keys m) at) (list_any (λ n. touches (keys n) at) ms) (touches_by m k at v here meets)
        | false ↦ λ later. or_right (touches (keys m) at) (list_any (λ n. touches (keys n) at) ms) (touching_one ms k at v later meets)
      ] is

  touches-overlaid : (ms : List Map) → AllByRecursion (Conforms may_stand) ms → (at : Locator) → touches (keys (overlay ms)) at ≡ list_any (λ m. touches (keys m) at) ms
  touches-overlaid ms conforms at = both_ways (touches (keys (overlay ms)) at) (list_any (λ m. touches (keys m) at) ms)
      (λ near.
      let t : Touching (overlay ms) at = touching (overlay ms) at near in
      touching_one ms t.key at t.value (sym (get-overlaid ms t.key) ∙ t.is) t.meets)
      (λ near.
      let t = overlaid_touching ms conforms at near in
      touches_by (overlay ms) t.0 at t.1 (get-overlaid ms t.0 ∙ t.2) t.3)

  -- a map hides at a locator what weaker ones have only where it has a value there itself
  overlaid-strongest : (m : Map) (ms : List Map) → Conforms may_stand m → AllByRecursion (Conforms may_stand) ms → (at : Locator) → overlaid_at (m ∷ ms) at ≡ option_or (get m at) (overlaid_at ms at)
  overlaid-strongest m ms conforms others at =
      elim (touches (keys m) at) as (λ b. touches (keys m) at ≡ b → (if b then get m at else overlaid_at ms at) ≡ option_or (get m at) (overlaid_at ms at)) [
        | false ↦ λ far. ap (λ (o : Option Value). option_or o (overlaid_at ms at)) (sym (untouched m at far))
        | true ↦ λ near. elim (get m at) as (λ (o : Option Value). get m at ≡ o → o ≡ option_or o (overlaid_at ms at)) [
          | Some v ↦ λ _. refl
          | None ↦ λ hidden. elim (overlaid_at ms at) as (λ (o : Option Value). overlaid_at ms at ≡ o → None ≡ o) [
            | None ↦ λ _. refl
            | Some v ↦ λ later.
                let t : Touching m at = touching m at near in
                let same : t.key ≡ at = one_locator t.key at t.value v (conforms t.key t.value t.is) (overlaid_conforms ms others at v later) t.meets in
                absurd (none_is_not t.value (sym hidden ∙ ap (get m) (sym same) ∙ t.is))
          ] refl
        ] refl
      ] refl

  overlaid_at-append : (ms ns : List Map) (at : Locator) → overlaid_at (ms ++ ns) at ≡ (if list_any (λ m. touches (keys m) at) ms then overlaid_at ms at else overlaid_at ns at)
  overlaid_at-append [] ns at = refl
  overlaid_at-append (m ∷ ms) ns at =
      elim (touches (keys m) at) as (λ b. (if b then get m at else overlaid_at (ms ++ ns) at) ≡ (if b || list_any (λ n. touches (keys n) at) ms then (if b then get m at else overlaid_at ms at) else overlaid_at ns at)) [
        | true ↦ refl
        | false ↦ overlaid_at-append ms ns at
      ]

  -- the stronger containers may be overlaid first
  overlaid-first : (ms ns : List Map) → AllByRecursion (Conforms may_stand) ms → overlay (overlay ms ∷ ns) ≡ overlay (ms ++ ns)
  overlaid-first ms ns conforms = same_map locators_total locators_tie (overlay (overlay ms ∷ ns)) (overlay (ms ++ ns)) (λ at.
      get-overlaid (overlay ms ∷ ns) at
      ∙ ap (λ b. if b then get (overlay ms) at else overlaid_at ns at) (touches-overlaid ms conforms at)
      ∙ ap (λ (o : Option Value). if list_any (λ m. touches (keys m) at) ms then o else overlaid_at ns at) (get-overlaid ms at)
      ∙ sym (overlaid_at-append ms ns at)
      ∙ sym (get-overlaid (ms ++ ns) at))

  merged_prim-first : (es fs : List Entry) → AllByRecursion (Conforms may_stand) (values_of es) → merged_prim (merged_prim es ∷ fs) ≡ merged_prim (es ++ fs)
  merged_prim-first es fs conforms =
      same_parts (first_kind (first_kind (kinds_of es) ∷ kinds_of fs)) (first_kind (kinds_of (es ++ fs))) (overlay (overlay (values_of es) ∷ values_of fs)) (overlay (values_of (es ++ fs)))
      (first_kind-first (kinds_of es) (kinds_of fs) ∙ ap first_kind (sym (map-append (λ (e : Entry). e.kind) es fs)))
      (overlaid-first (values_of es) (values_of fs) conforms ∙ ap overlay (sym (map-append (λ (e : Entry). e.values) es fs)))

  merged_entry-first : (es fs : List Entry) → AllByRecursion (Conforms may_stand) (values_of es) → merged_entry (cons_option (merged_entry es) fs) ≡ merged_entry (es ++ fs)
  merged_entry-first [] fs conforms = refl
  merged_entry-first (e ∷ es) fs conforms = ap (λ (d : Entry). Some d) (merged_prim-first (e ∷ es) fs conforms)

  prims_conform : (ss : List Scene) → All (SceneConforms may_stand) ss → (path : Path) → AllByRecursion (Conforms may_stand) (values_of (prims_at ss path))
  prims_conform [] all path = tt
  prims_conform (s ∷ ss) all path =
      let rest = prims_conform ss (λ k d l. all (suc k) d (omega arith)) path in
      elim (get s path) as (λ (o : Option Entry). get s path ≡ o → AllByRecursion (Conforms may_stand) (values_of (cons_option o (prims_at ss path)))) [
        | None ↦ λ _. rest
        | Some e ↦ λ there. (all 0 s (omega arith) path e there, rest)
      ] refl

  -- what the prims at a path have together at a locator
  strongest_at : (ss : List Scene) → All (SceneConforms may_stand) ss → (path : Path) (at : Locator) → overlaid_at (values_of (prims_at ss path)) at ≡ strongest_value ss path at
  strongest_at [] all path at = refl
  strongest_at (s ∷ ss) all path at =
      let further : All (SceneConforms may_stand) ss = λ k d l. all (suc k) d (omega arith) in
      let rest : overlaid_at (values_of (prims_at ss path)) at ≡ strongest_value ss path at = strongest_at ss further path at in
      elim (get s path) as (λ (o : Option Entry). get s path ≡ o → overlaid_at (values_of (cons_option o (prims_at ss path))) at ≡ option_or (option_and_then (λ (e : Entry). get e.values at) o) (strongest_value ss path at)) [
        | None ↦ λ _. rest
        | Some e ↦ λ there.
            overlaid-strongest e.values (values_of (prims_at ss path)) (all 0 s (omega arith) path e there) (prims_conform ss further path) at
            ∙ ap (option_or (get e.values at)) rest
      ] refl

-- each value comes from the strongest scene that has one at its locator, where no value is above another one
pub value_at-strongest : (may_stand : Locator → Value → Bool) (ss : List Scene) → IsUnnested may_stand → All (SceneConforms may_stand) ss → (path : Path) (at : Locator) → value_at (merged_scene ss) path at ≡ strongest_value ss path at
value_at-strongest may_stand ss unnested all path at = value_at-merged ss path at ∙ strongest_at may_stand unnested ss all path at

-- the stronger scenes may be merged first where no value of theirs is above another one
pub merged-first : (may_stand : Locator → Value → Bool) (ss ts : List Scene) → IsUnnested may_stand → All (SceneConforms may_stand) ss → merged_scene (merged_scene ss ∷ ts) ≡ merged_scene (ss ++ ts)
merged-first may_stand ss ts unnested all = same_map locators_total locators_tie (merged_scene (merged_scene ss ∷ ts)) (merged_scene (ss ++ ts)) (λ path.
    get-merged (merged_scene ss ∷ ts) path
    ∙ ap (λ (o : Option Entry). merged_entry (cons_option o (prims_at ts path))) (get-merged ss path)
    ∙ merged_entry-first may_stand unnested (prims_at ss path) (prims_at ts path) (prims_conform may_stand unnested ss all path)
    ∙ ap merged_entry (sym (filter_map-append (λ (s : Scene). get s path) ss ts))
    ∙ sym (get-merged (ss ++ ts) path))
