-- What the merged scene has at a path.
use Rattle.std.proofs.Common.{◌≡◌, Bool, true, false, ◌||◌, cond, if◌then◌else◌, List, [], ◌∷◌, ◌++◌, suc, map, Option, Some, None, is_some, refl, sym, ◌∙◌, ap, arith, slice_index_or}
use Rattle.std.proofs.lemmas.List.Folds.{list_any-append}
use Rattle.std.proofs.lemmas.List.Elements.{All-map}
use Rattle.std.specs.Prelude.{All}
use Rattle.std.specs.List.{list_any, filter_map, flat_map, cons_option}
use Rattle.std.specs.Option.{option_map}
use Rattle.std.specs.Ordering.{eq_by_cmp}
use Rattle.std.specs.declared.cmp.Ordering.{Ordering}
use Rattle.std.specs.Cmp.{IsTotalOrder}
use Rattle.std.specs.FinMap.{FinMap, IsAntisymmetric, get, keys, find, get-from_entries, contains_key-keys}
use Rattle.std.proofs.Math.Bool.{or-true}
use Rattle.std.proofs.lemmas.Bool.{false≢true}
use Rattle.hd_value.specs.inner.Falls.{locators_total, locators_tie}
use Rattle.hd_value.specs.LocatorSets.{touches}
use Rattle.hd_value.specs.Maps.{Map, overlaid_at}
use Rattle.hd_scene.specs.Scenes.{Scene, IsClosed}
use Rattle.hd_scene.proofs.Closing.{is_equal}
use Rattle.hd_scene.specs.declared.prims.Entry.{Entry}
use Rattle.hd_merging.specs.Merges.{table_of, overlay, merged_entry, prims_at, merged_scene}
use Rattle.hd_path.specs.Paths.{Path}
use Rattle.hd_tokens.specs.Locators.{Locator}

pub or_left : (a b : Bool) → a ≡ true → (a || b) ≡ true
or_left a b h = ap (λ c. c || b) h

pub or_right : (a b : Bool) → b ≡ true → (a || b) ≡ true
or_right a b h = ap (λ c. a || c) h ∙ or-true a

neither : {X : Type 0} (b : Bool) → ◌≡◌ {A = Option X} (cond b None None) None
neither true = refl
neither false = refl

module _ {K X : Type 0} {R : K → K → Ordering} (total : IsTotalOrder R) (exact : IsAntisymmetric R) (given : K → Option X) where
  -- the entries of the map that has at each of these keys what is given for it
  abbrev listed : List K → List (K × X)
  listed ks = filter_map (λ k. option_map (λ x. (k, x)) (given k)) ks

  found_here : (q k : K) (ks : List K) (o : Option X) → eq_by_cmp R q k ≡ true → given q ≡ o → find R q (listed ks) ≡ cond (list_any (eq_by_cmp R q) ks) (given q) None
      → find R q (cons_option (option_map (λ x. (k, x)) o) (listed ks)) ≡ given q
  found_here q k ks None same is rest = rest ∙ ap (λ o. cond (list_any (eq_by_cmp R q) ks) o None) is ∙ neither (list_any (eq_by_cmp R q) ks) ∙ sym is
  found_here q k ks (Some x) same is rest = ap (λ t. cond t (Some x) (find R q (listed ks))) same ∙ sym is

  found_further : (q k : K) (es : List (K × X)) (o : Option X) → eq_by_cmp R q k ≡ false → find R q (cons_option (option_map (λ x. (k, x)) o) es) ≡ find R q es
  found_further q k es None other = refl
  found_further q k es (Some x) other = ap (λ t. cond t (Some x) (find R q es)) other

  find-listed : (q : K) (ks : List K) → find R q (listed ks) ≡ cond (list_any (eq_by_cmp R q) ks) (given q) None
  find-listed q [] = refl
  find-listed q (k ∷ ks) =
      elim (eq_by_cmp R q k) as (λ b. eq_by_cmp R q k ≡ b → find R q (cons_option (option_map (λ x. (k, x)) (given k)) (listed ks)) ≡ cond (b || list_any (eq_by_cmp R q) ks) (given q) None) [
        | true ↦ λ same. found_here q k ks (given k) same (ap given (exact q k (is_equal (R q k) same))) (find-listed q ks)
        | false ↦ λ other. found_further q k (listed ks) (given k) other ∙ find-listed q ks
      ] refl

  -- a map of keys that has what is given for a key, where the key is one of them
  pub get-tabulated : (ks : List K) (q : K) → (is_some (given q) ≡ true → list_any (eq_by_cmp R q) ks ≡ true) → get (table_of {R = R} ks given) q ≡ given q
  get-tabulated ks q listed_there = get-from_entries total (listed ks) q ∙ find-listed q ks ∙ there (given q) listed_there
    where
      there : (o : Option X) → (is_some o ≡ true → list_any (eq_by_cmp R q) ks ≡ true) → cond (list_any (eq_by_cmp R q) ks) o None ≡ o
      there None h = neither (list_any (eq_by_cmp R q) ks)
      there (Some x) h = ap (λ t. cond t (Some x) None) (h refl)

-- a key of any of the maps
any_key : {K X : Type 0} {R : K → K → Ordering} (q : K) (ms : List (FinMap R X)) → list_any (eq_by_cmp R q) (flat_map keys ms) ≡ list_any (λ m. is_some (get m q)) ms
any_key q [] = refl
any_key {R = R} q (m ∷ ms) =
    list_any-append (eq_by_cmp R q) (keys m) (flat_map keys ms)
    ∙ ap (λ b. b || list_any (eq_by_cmp R q) (flat_map keys ms)) (sym (contains_key-keys m q))
    ∙ ap (λ b. is_some (get m q) || b) (any_key q ms)

overlaid_there : (ms : List Map) (at : Locator) → is_some (overlaid_at ms at) ≡ true → list_any (λ m. is_some (get m at)) ms ≡ true
overlaid_there [] at h = h
overlaid_there (m ∷ ms) at h =
    elim (touches (keys m) at) as (λ b. is_some (if b then get m at else overlaid_at ms at) ≡ true → (is_some (get m at) || list_any (λ m. is_some (get m at)) ms) ≡ true) [
      | true ↦ λ there. or_left (is_some (get m at)) (list_any (λ m. is_some (get m at)) ms) there
      | false ↦ λ there. or_right (is_some (get m at)) (list_any (λ m. is_some (get m at)) ms) (overlaid_there ms at there)
    ] h

-- the value at a locator of overlaid containers
pub get-overlaid : (ms : List Map) (at : Locator) → get (overlay ms) at ≡ overlaid_at ms at
unfolding overlay
get-overlaid ms at = get-tabulated locators_total locators_tie (overlaid_at ms) (flat_map keys ms) at (λ there. any_key at ms ∙ overlaid_there ms at there)

-- whether a prim is there
pub there-prims_at : (scenes : List Scene) (path : Path) → is_some (merged_entry (prims_at scenes path)) ≡ list_any (λ scene. is_some (get scene path)) scenes
there-prims_at [] path = refl
there-prims_at (s ∷ ss) path =
    elim (get s path) as (λ (o : Option Entry). is_some (merged_entry (cons_option o (prims_at ss path))) ≡ (is_some o || list_any (λ scene. is_some (get scene path)) ss)) [
      | None ↦ there-prims_at ss path
      | Some e ↦ refl
    ]

-- the prim at a path of merged scenes
pub get-merged : (scenes : List Scene) (path : Path) → get (merged_scene scenes) path ≡ merged_entry (prims_at scenes path)
unfolding merged_scene
get-merged scenes path = get-tabulated locators_total locators_tie (λ p. merged_entry (prims_at scenes p)) (flat_map keys scenes) path (λ there. any_key path scenes ∙ sym (there-prims_at scenes path) ∙ there)

pub there-merged : (scenes : List Scene) (path : Path) → is_some (get (merged_scene scenes) path) ≡ list_any (λ scene. is_some (get scene path)) scenes
there-merged scenes path = ap is_some (get-merged scenes path) ∙ there-prims_at scenes path

-- what passes one test passes another, and so for any element of a list
any_passes : {P : Scene → Type 0} (p q : Scene → Bool) → ((s : Scene) → P s → p s ≡ true → q s ≡ true) → (ss : List Scene) → All P ss → list_any p ss ≡ true → list_any q ss ≡ true
any_passes p q passes [] all h = h
any_passes p q passes (s ∷ ss) all h =
    elim (p s) as (λ b. p s ≡ b → (b || list_any p ss) ≡ true → (q s || list_any q ss) ≡ true) [
      | true ↦ λ here _. or_left (q s) (list_any q ss) (passes s (all 0 s (omega arith)) here)
      | false ↦ λ _ further. or_right (q s) (list_any q ss) (any_passes p q passes ss (λ k d l. all (suc k) d (omega arith)) further)
    ] refl h

any_shows : {P : Scene → Type 0} {Q : Type 0} (p : Scene → Bool) → ((s : Scene) → P s → p s ≡ true → Q) → (ss : List Scene) → All P ss → list_any p ss ≡ true → Q
any_shows p shows [] all h = absurd (false≢true h)
any_shows {Q = Q} p shows (s ∷ ss) all h =
    elim (p s) as (λ b. p s ≡ b → (b || list_any p ss) ≡ true → Q) [
      | true ↦ λ here _. shows s (all 0 s (omega arith)) here
      | false ↦ λ _ further. any_shows p shows ss (λ k d l. all (suc k) d (omega arith)) further
    ] refl h

no_prim_at_root : (ss : List Scene) → All IsClosed ss → merged_entry (prims_at ss []) ≡ None
no_prim_at_root [] all = refl
no_prim_at_root (s ∷ ss) all =
    ap (λ (o : Option Entry). merged_entry (cons_option o (prims_at ss []))) (all 0 s (omega arith)).no_root
    ∙ no_prim_at_root ss (λ k d l. all (suc k) d (omega arith))

-- closed scenes are merged into a closed one
pub merged_closed : (ss : List Scene) → All IsClosed ss → IsClosed (merged_scene ss)
merged_closed ss all = record {
  no_root = get-merged ss [] ∙ no_prim_at_root ss all;
  parents = λ path name below there.
      there-merged ss (path ++ name ∷ [])
      ∙ any_passes {P = IsClosed} (λ s. is_some (get s (path ++ name ∷ below ∷ []))) (λ s. is_some (get s (path ++ name ∷ []))) (λ s closed is. closed.parents path name below is) ss all (sym (there-merged ss (path ++ name ∷ below ∷ [])) ∙ there);
  paths = λ path there. any_shows {P = IsClosed} (λ s. is_some (get s path)) (λ s closed is. closed.paths path is) ss all (sym (there-merged ss path) ∙ there);
}

-- the scene of inputs that are in step is closed
pub inputs_closed : {I : Type 0} (scene : I → Scene) (in_step : I → Type 0) → ((x : I) → in_step x → IsClosed (scene x)) → (inputs : List I) → All in_step inputs → IsClosed (merged_scene (map scene inputs))
inputs_closed scene in_step closed inputs all = merged_closed (map scene inputs) (All-map IsClosed scene inputs (λ k d l. closed (slice_index_or inputs k d) (all k d l)))
