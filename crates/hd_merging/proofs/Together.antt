-- What prims are together, and so the scenes that hold them.
use Rattle.std.proofs.Common.{◌≡◌, ℕ, true, false, if◌then◌else◌, List, [], ◌∷◌, ◌++◌, map, Option, Some, None, refl, sym, ◌∙◌, ap}
use Rattle.std.proofs.lemmas.List.{map-append}
use Rattle.std.proofs.lemmas.List.Elements.{filter_map-append}
use Rattle.std.specs.List.{cons_option}
use Rattle.std.specs.FinMap.{get, keys, same_map}
use Rattle.hd_value.specs.declared.value.Value.{Value}
use Rattle.hd_value.specs.inner.Falls.{locators_total, locators_tie}
use Rattle.hd_value.specs.LocatorSets.{touches}
use Rattle.hd_value.specs.Maps.{Map, overlaid_at}
use Rattle.hd_value.proofs.Overlaying.{untouched}
use Rattle.hd_scene.specs.Scenes.{Scene}
use Rattle.hd_scene.specs.declared.prims.Entry.{Entry}
use Rattle.hd_merging.specs.Merges.{overlay, first_kind, merged_prim, merged_entry, prims_at, merged_scene}
use Rattle.hd_merging.specs.inner.MergedScenes.{get-overlaid, get-merged}
use Rattle.hd_path.specs.Names.{Name}
use Rattle.hd_path.proofs.Logic.{some_is_not}
use Rattle.hd_tokens.specs.Locators.{Locator}

-- a container alone
alone : (m : Map) (at : Locator) → overlaid_at (m ∷ []) at ≡ get m at
alone m at =
    elim (touches (keys m) at) as (λ b. touches (keys m) at ≡ b → (if b then get m at else None) ≡ get m at) [
      | true ↦ λ _. refl
      | false ↦ λ apart. sym (untouched m at apart)
    ] refl

overlaid-one : (m : Map) → overlay (m ∷ []) ≡ m
overlaid-one m = same_map locators_total locators_tie (overlay (m ∷ [])) m (λ at. get-overlaid (m ∷ []) at ∙ alone m at)

-- the weaker containers may be overlaid first
further : (ms ns : List Map) (at : Locator) → overlaid_at (ms ++ overlay ns ∷ []) at ≡ overlaid_at (ms ++ ns) at
further [] ns at = alone (overlay ns) at ∙ get-overlaid ns at
further (m ∷ ms) ns at = ap (λ (o : Option Value). if touches (keys m) at then get m at else o) (further ms ns at)

overlaid-further : (ms ns : List Map) → overlay (ms ++ overlay ns ∷ []) ≡ overlay (ms ++ ns)
overlaid-further ms ns =
    same_map locators_total locators_tie (overlay (ms ++ overlay ns ∷ [])) (overlay (ms ++ ns)) (λ at. get-overlaid (ms ++ overlay ns ∷ []) at ∙ further ms ns at ∙ sym (get-overlaid (ms ++ ns) at))

first_kind-one : (kind : Name) → first_kind (kind ∷ []) ≡ kind
first_kind-one [] = refl
first_kind-one (letter ∷ kind) = refl

first_kind-further : (ks js : List (List ℕ)) → first_kind (ks ++ first_kind js ∷ []) ≡ first_kind (ks ++ js)
first_kind-further [] js = first_kind-one (first_kind js)
first_kind-further ([] ∷ ks) js = first_kind-further ks js
first_kind-further ((letter ∷ kind) ∷ ks) js = refl

-- the prim of these two parts
pub same_parts : (j k : List ℕ) (m n : Map) → j ≡ k → m ≡ n → ◌≡◌ {A = Entry} (record { kind = j; values = m }) (record { kind = k; values = n })
same_parts j k m n kinds values = ap (λ (i : List ℕ). record { kind = i; values = m }) kinds ∙ ap (λ (l : Map). record { kind = k; values = l }) values

pub merged_prim-one : (e : Entry) → merged_prim (e ∷ []) ≡ e
merged_prim-one e = same_parts (first_kind (e.kind ∷ [])) e.kind (overlay (e.values ∷ [])) e.values (first_kind-one e.kind) (overlaid-one e.values)

abbrev pub kinds_of : List Entry → List (List ℕ)
kinds_of = map (λ (e : Entry). e.kind)

abbrev pub values_of : List Entry → List Map
values_of = map (λ (e : Entry). e.values)

-- the weaker prims may be taken together first
pub merged_prim-further : (es fs : List Entry) → merged_prim (es ++ merged_prim fs ∷ []) ≡ merged_prim (es ++ fs)
merged_prim-further es fs =
    same_parts (first_kind (kinds_of (es ++ merged_prim fs ∷ []))) (first_kind (kinds_of (es ++ fs))) (overlay (values_of (es ++ merged_prim fs ∷ []))) (overlay (values_of (es ++ fs)))
    (ap first_kind (map-append (λ (e : Entry). e.kind) es (merged_prim fs ∷ [])) ∙ first_kind-further (kinds_of es) (kinds_of fs) ∙ ap first_kind (sym (map-append (λ (e : Entry). e.kind) es fs)))
    (ap overlay (map-append (λ (e : Entry). e.values) es (merged_prim fs ∷ [])) ∙ overlaid-further (values_of es) (values_of fs) ∙ ap overlay (sym (map-append (λ (e : Entry). e.values) es fs)))

merged_entry-further : (es fs : List Entry) → merged_entry (es ++ cons_option (merged_entry fs) []) ≡ merged_entry (es ++ fs)
merged_entry-further es [] = refl
merged_entry-further [] (f ∷ fs) = ap (λ (e : Entry). Some e) (merged_prim-further [] (f ∷ fs))
merged_entry-further (e ∷ es) (f ∷ fs) = ap (λ (d : Entry). Some d) (merged_prim-further (e ∷ es) (f ∷ fs))

-- a prim over what weaker ones are together, and over none
pub laid_on_some : (e f r : Entry) (weaker : List Entry) → Some f ≡ merged_entry weaker → r ≡ merged_prim (e ∷ f ∷ []) → Some r ≡ merged_entry (e ∷ weaker)
laid_on_some e f r [] is laid = some_is_not f is
laid_on_some e f r (d ∷ ds) is laid =
    let same : f ≡ merged_prim (d ∷ ds) = cc in
    ap (λ (x : Entry). Some x) (laid ∙ ap (λ (x : Entry). merged_prim (e ∷ x ∷ [])) same ∙ merged_prim-further (e ∷ []) (d ∷ ds))

pub laid_on_none : (e : Entry) (weaker : List Entry) → None ≡ merged_entry weaker → Some e ≡ merged_entry (e ∷ weaker)
laid_on_none e [] is = ap (λ (x : Entry). Some x) (sym (merged_prim-one e))
laid_on_none e (d ∷ ds) is = absurd (none_is_not is)
  where
    none_is_not : None ≡ Some (merged_prim (d ∷ ds)) → ⊥
    none_is_not h = cc

-- a container that answers as the overlaid ones is those
pub overlaid_from_answers : (whole : Map) (ms : List Map) → ((at : Locator) → get whole at ≡ overlaid_at ms at) → whole ≡ overlay ms
overlaid_from_answers whole ms answers = same_map locators_total locators_tie whole (overlay ms) (λ at. answers at ∙ sym (get-overlaid ms at))

pub both_parts : (k : List ℕ) (m : Map) (es : List Entry) → k ≡ first_kind (kinds_of es) → ((at : Locator) → get m at ≡ overlaid_at (values_of es) at) → record { kind = k; values = m } ≡ merged_prim es
both_parts k m es kind answers = same_parts k (first_kind (kinds_of es)) m (overlay (values_of es)) kind (overlaid_from_answers m (values_of es) answers)

-- one scene alone
pub merged-one : (scene : Scene) → merged_scene (scene ∷ []) ≡ scene
merged-one scene = same_map locators_total locators_tie (merged_scene (scene ∷ [])) scene (λ path. get-merged (scene ∷ []) path ∙ one (get scene path))
  where
    one : (o : Option Entry) → merged_entry (cons_option o []) ≡ o
    one None = refl
    one (Some e) = ap (λ (x : Entry). Some x) (merged_prim-one e)

-- the weaker scenes may be merged first
pub merged-further : (ss ts : List Scene) → merged_scene (ss ++ merged_scene ts ∷ []) ≡ merged_scene (ss ++ ts)
merged-further ss ts = same_map locators_total locators_tie (merged_scene (ss ++ merged_scene ts ∷ [])) (merged_scene (ss ++ ts)) (λ path.
    get-merged (ss ++ merged_scene ts ∷ []) path
    ∙ ap merged_entry (filter_map-append (λ (s : Scene). get s path) ss (merged_scene ts ∷ []))
    ∙ ap (λ (o : Option Entry). merged_entry (prims_at ss path ++ cons_option o [])) (get-merged ts path)
    ∙ merged_entry-further (prims_at ss path) (prims_at ts path)
    ∙ ap merged_entry (sym (filter_map-append (λ (s : Scene). get s path) ss ts))
    ∙ sym (get-merged (ss ++ ts) path))
