-- A list of properties with one of them changed.
use Rattle.std.proofs.Common.{◌≡◌, ◌≢◌, ℕ, Bool, true, false, not, cond, ◌&&◌, ◌||◌, List, [], ◌∷◌, ◌++◌, map, filter, Option, Some, None, Result, Ok, Err, IfOk, length, refl, sym, ◌∙◌, ap, arith}
use Rattle.std.proofs.lemmas.Bool.{lt-ltb, not-true}
use Rattle.std.proofs.lemmas.Cmp.{eq_by_cmp_equiv}
use Rattle.std.proofs.lemmas.List.{map-append}
use Rattle.std.specs.Cmp.Lexicographic.{slice_cmp, bytes_decides, nat_list_cmp_total, texts_ties}
use Rattle.std.specs.List.{list_all, list_any}
use Rattle.std.specs.Ordering.{nat_cmp, eq_by_cmp}
use Rattle.std.specs.Str.{bytes_eq}
use Rattle.std.specs.FinMap.{get, find, insert, remove, empty, from_entries, from_entries_push, get-insert, get-remove, get-from_entries, same_map, slice_cmp-IsAntisymmetric, nat_cmp-IsAntisymmetric}
use Rattle.std.specs.declared.alloc.AllocError.{AllocError}
use Rattle.hd_layer.specs.declared.spec.Property.{Property}
use Rattle.hd_layer.specs.declared.spec.PrimSpec.{PrimSpec}
use Rattle.hd_layer.specs.declared.spec.RawValue.{RawValue}
use Rattle.hd_layer.specs.WellFormed.{is_below_root, is_property, is_prim_spec, are_distinct}
use Rattle.hd_schema.proofs.Putting.{Holds, none_held}
use Rattle.hd_retained.specs.declared.stored.StoredPrim.{StoredPrim}
use Rattle.hd_retained.specs.Layers.{Properties, LayerPrim, named_value, properties_of, container_of}
use Rattle.hd_retained.specs.inner.Indexed.{IsStored, prim_of}
use Rattle.hd_retained.proofs.Authoring.{container_is}
use Rattle.hd_path.specs.Paths.{Path}
use Rattle.hd_path.specs.Names.{Name}
use Rattle.hd_path.proofs.Logic.{true_is_not}
use Rattle.hd_path.proofs.NamePrefixes.{and_true}

pub and_is : (a b : Bool) → a ≡ true → b ≡ true → (a && b) ≡ true
and_is a b p q = ap (λ t. t && b) p ∙ q

abbrev pub names : List Property → List (List ℕ)
names ps = map (λ (p : Property). p.name) ps

abbrev pub others : List ℕ → List Property → List Property
others name ps = filter (λ p. not (bytes_eq name p.name)) ps

pub all_filter : (fact test : Property → Bool) (ps : List Property) → list_all fact ps ≡ true → list_all fact (filter test ps) ≡ true
all_filter fact test [] h = refl
all_filter fact test (p ∷ ps) h =
    let both = and_true (fact p) (list_all fact ps) h in
    elim (test p) as (λ b. list_all fact (cond b (p ∷ filter test ps) (filter test ps)) ≡ true) [
      | true ↦ and_is (fact p) (list_all fact (filter test ps)) both.0 (all_filter fact test ps both.1)
      | false ↦ all_filter fact test ps both.1
    ]

pub all_last : (fact : Property → Bool) (ps : List Property) (p : Property) → list_all fact ps ≡ true → fact p ≡ true → list_all fact (ps ++ p ∷ []) ≡ true
all_last fact [] p h here = and_is (fact p) true here refl
all_last fact (x ∷ ps) p h here =
    let both = and_true (fact x) (list_all fact ps) h in
    and_is (fact x) (list_all fact (ps ++ p ∷ [])) both.0 (all_last fact ps p both.1 here)

fewer_named : (test : Property → Bool) (name : Name) (ps : List Property) → list_any (bytes_eq name) (names ps) ≡ false → list_any (bytes_eq name) (names (filter test ps)) ≡ false
fewer_named test name [] h = refl
fewer_named test name (p ∷ ps) h =
    elim (bytes_eq name p.name) as (λ b. bytes_eq name p.name ≡ b → (b || list_any (bytes_eq name) (names ps)) ≡ false → list_any (bytes_eq name) (names (cond (test p) (p ∷ filter test ps) (filter test ps))) ≡ false) [
      | true ↦ λ _ no. true_is_not no
      | false ↦ λ other later. elim (test p) as (λ b. list_any (bytes_eq name) (names (cond b (p ∷ filter test ps) (filter test ps))) ≡ false) [
        | true ↦ ap (λ b. b || list_any (bytes_eq name) (names (filter test ps))) other ∙ fewer_named test name ps later
        | false ↦ fewer_named test name ps later
      ]
    ] refl h

pub distinct_filter : (test : Property → Bool) (ps : List Property) → are_distinct (names ps) ≡ true → are_distinct (names (filter test ps)) ≡ true
distinct_filter test [] h = refl
distinct_filter test (p ∷ ps) h =
    let both = and_true (not (list_any (bytes_eq p.name) (names ps))) (are_distinct (names ps)) h in
    elim (test p) as (λ b. are_distinct (names (cond b (p ∷ filter test ps) (filter test ps))) ≡ true) [
      | true ↦ and_is (not (list_any (bytes_eq p.name) (names (filter test ps)))) (are_distinct (names (filter test ps))) (ap not (fewer_named test p.name ps (not-true (list_any (bytes_eq p.name) (names ps)) both.0))) (distinct_filter test ps both.1)
      | false ↦ distinct_filter test ps both.1
    ]

bytes_turned : (a b : Name) → bytes_eq a b ≡ false → bytes_eq b a ≡ false
bytes_turned a b h =
    elim (bytes_eq b a) as (λ t. bytes_eq b a ≡ t → t ≡ false) [
      | true ↦ λ same. sym ((bytes_decides a b).1 (sym ((bytes_decides b a).0 same))) ∙ h
      | false ↦ λ _. refl
    ] refl

named_last : (name : Name) (ps : List Property) (p : Property) → list_any (bytes_eq name) (names ps) ≡ false → bytes_eq name p.name ≡ false → list_any (bytes_eq name) (names (ps ++ p ∷ [])) ≡ false
named_last name [] p h other = ap (λ b. b || false) other
named_last name (x ∷ ps) p h other =
    elim (bytes_eq name x.name) as (λ b. (b || list_any (bytes_eq name) (names ps)) ≡ false → (b || list_any (bytes_eq name) (names (ps ++ p ∷ []))) ≡ false) [
      | true ↦ λ no. no
      | false ↦ λ later. named_last name ps p later other
    ] h

or_parts : (a b : Bool) → (a || b) ≡ false → (a ≡ false) × (b ≡ false)
or_parts true b e = (e, true_is_not e)
or_parts false b e = (refl, e)

pub distinct_last : (ps : List Property) (p : Property) → are_distinct (names ps) ≡ true → list_any (bytes_eq p.name) (names ps) ≡ false → are_distinct (names (ps ++ p ∷ [])) ≡ true
distinct_last [] p h new = refl
distinct_last (x ∷ ps) p h new =
    let both = and_true (not (list_any (bytes_eq x.name) (names ps))) (are_distinct (names ps)) h in
    let apart = or_parts (bytes_eq p.name x.name) (list_any (bytes_eq p.name) (names ps)) new in
    and_is (not (list_any (bytes_eq x.name) (names (ps ++ p ∷ [])))) (are_distinct (names (ps ++ p ∷ [])))
    (ap not (named_last x.name ps p (not-true (list_any (bytes_eq x.name) (names ps)) both.0) (bytes_turned p.name x.name apart.0)))
    (distinct_last ps p both.1 apart.1)

-- among the others none has the name
pub others_named : (name : Name) (ps : List Property) → list_any (bytes_eq name) (names (others name ps)) ≡ false
others_named name [] = refl
others_named name (p ∷ ps) =
    elim (bytes_eq name p.name) as (λ b. bytes_eq name p.name ≡ b → list_any (bytes_eq name) (names (cond (not b) (p ∷ others name ps) (others name ps))) ≡ false) [
      | true ↦ λ _. others_named name ps
      | false ↦ λ other. ap (λ b. b || list_any (bytes_eq name) (names (others name ps))) other ∙ others_named name ps
    ] refl

names_tie : (p q : List ℕ) → eq_by_cmp (slice_cmp nat_cmp) p q ≡ true → p ≡ q
names_tie p q h = (bytes_decides p q).0 (texts_ties p q ∙ h)

find_others : (name : Name) (q : List ℕ) (ps : List Property) → find (slice_cmp nat_cmp) q (map named_value (others name ps)) ≡ cond (eq_by_cmp (slice_cmp nat_cmp) q name) None (find (slice_cmp nat_cmp) q (map named_value ps))
find_others name q [] = elim (eq_by_cmp (slice_cmp nat_cmp) q name) as (λ b. ◌≡◌ {A = Option RawValue} None (cond b None None)) [ true ↦ refl | false ↦ refl ]
find_others name q (p ∷ ps) =
    elim (bytes_eq name p.name) as (λ b. bytes_eq name p.name ≡ b → find (slice_cmp nat_cmp) q (map named_value (cond (not b) (p ∷ others name ps) (others name ps))) ≡ cond (eq_by_cmp (slice_cmp nat_cmp) q name) None (cond (eq_by_cmp (slice_cmp nat_cmp) q p.name) (Some p.value) (find (slice_cmp nat_cmp) q (map named_value ps)))) [
      | true ↦ λ same.
          find_others name q ps
          ∙ dropped (eq_by_cmp (slice_cmp nat_cmp) q name)
          ∙ ap (λ (n : List ℕ). cond (eq_by_cmp (slice_cmp nat_cmp) q name) None (cond (eq_by_cmp (slice_cmp nat_cmp) q n) (Some p.value) (find (slice_cmp nat_cmp) q (map named_value ps)))) ((bytes_decides name p.name).0 same)
      | false ↦ λ other.
          ap (cond (eq_by_cmp (slice_cmp nat_cmp) q p.name) (Some p.value)) (find_others name q ps)
          ∙ elim (eq_by_cmp (slice_cmp nat_cmp) q name) as (λ b. eq_by_cmp (slice_cmp nat_cmp) q name ≡ b → cond (eq_by_cmp (slice_cmp nat_cmp) q p.name) (Some p.value) (cond b None (find (slice_cmp nat_cmp) q (map named_value ps))) ≡ cond b None (cond (eq_by_cmp (slice_cmp nat_cmp) q p.name) (Some p.value) (find (slice_cmp nat_cmp) q (map named_value ps)))) [
            | true ↦ λ tie. ap (λ b. cond b (Some p.value) None) (ap (λ (n : List ℕ). eq_by_cmp (slice_cmp nat_cmp) n p.name) (names_tie q name tie) ∙ sym (texts_ties name p.name) ∙ other)
            | false ↦ λ _. refl
          ] refl
    ] refl
  where
    dropped : (b : Bool) → cond b None (find (slice_cmp nat_cmp) q (map named_value ps)) ≡ cond b None (cond b (Some p.value) (find (slice_cmp nat_cmp) q (map named_value ps)))
    dropped true = refl
    dropped false = refl

exact : (p q : List ℕ) → eq_by_cmp (slice_cmp nat_cmp) p p ≡ true
exact p q = (eq_by_cmp_equiv nat_list_cmp_total).refl p

-- the others are what is left without the name
pub others_removed : (name : Name) (ps : List Property) → properties_of (others name ps) ≡ remove (properties_of ps) name
others_removed name ps = same_map nat_list_cmp_total (slice_cmp-IsAntisymmetric nat_cmp-IsAntisymmetric) (properties_of (others name ps)) (remove (properties_of ps) name) (λ q.
    get-from_entries nat_list_cmp_total (map named_value (others name ps)) q
    ∙ find_others name q ps
    ∙ ap (cond (eq_by_cmp (slice_cmp nat_cmp) q name) None) (sym (get-from_entries nat_list_cmp_total (map named_value ps) q))
    ∙ sym (get-remove nat_list_cmp_total (properties_of ps) name q))

-- the others and a new one are what is there with the new one
pub others_inserted : (p : Property) (ps : List Property) → properties_of (others p.name ps ++ p ∷ []) ≡ insert (properties_of ps) p.name p.value
others_inserted p ps =
    ap (λ (es : List (List ℕ × RawValue)). from_entries {R = slice_cmp nat_cmp} es) (map-append named_value (others p.name ps) (p ∷ []))
    ∙ from_entries_push nat_list_cmp_total (slice_cmp-IsAntisymmetric nat_cmp-IsAntisymmetric) (map named_value (others p.name ps)) p.name p.value (find_others p.name p.name ps ∙ ap (λ b. cond b None (find (slice_cmp nat_cmp) p.name (map named_value ps))) (exact p.name p.name))
    ∙ ap (λ (m : Properties). insert m p.name p.value) (others_removed p.name ps)
    ∙ same_map nat_list_cmp_total (slice_cmp-IsAntisymmetric nat_cmp-IsAntisymmetric) (insert (remove (properties_of ps) p.name) p.name p.value) (insert (properties_of ps) p.name p.value) (λ q.
    get-insert nat_list_cmp_total (remove (properties_of ps) p.name) p.name p.value q
    ∙ ap (cond (eq_by_cmp (slice_cmp nat_cmp) q p.name) (Some p.value)) (get-remove nat_list_cmp_total (properties_of ps) p.name q)
    ∙ again (eq_by_cmp (slice_cmp nat_cmp) q p.name) (get (properties_of ps) q)
    ∙ sym (get-insert nat_list_cmp_total (properties_of ps) p.name p.value q))
  where
    again : (b : Bool) (o : Option RawValue) → cond b (Some p.value) (cond b None o) ≡ cond b (Some p.value) o
    again true o = refl
    again false o = refl

-- a prim without properties
pub empty_held : (h : StoredPrim) → h.properties ≡ [] → h.values ≡ empty → IsStored h
empty_held h none values = record {
  formed = ap (list_all is_property) none;
  distinct = ap (λ (ps : List Property). are_distinct (names ps)) none;
  values = values ∙ container_is empty [] none_held ∙ ap (λ (ps : List Property). container_of (properties_of ps)) (sym none);
}

-- a prim whose values are those of a well formed one
pub spec_held : (h : StoredPrim) (spec : PrimSpec) → is_prim_spec spec ≡ true → h.properties ≡ spec.properties → Holds h.values spec.properties → IsStored h
spec_held h spec formed same holds =
    let last = and_true _ (are_distinct (names spec.properties)) formed in
    let rest = and_true _ (list_all is_property spec.properties) last.0 in
    record {
      formed = ap (list_all is_property) same ∙ rest.1;
      distinct = ap (λ (ps : List Property). are_distinct (names ps)) same ∙ last.1;
      values = container_is h.values spec.properties holds ∙ ap (λ (ps : List Property). container_of (properties_of ps)) (sym same);
    }

pub below_root : (path : Path) → path ≢ [] → is_below_root path ≡ true
below_root [] other = absurd (other refl)
below_root (name ∷ path) other = lt-ltb 0 (length (name ∷ path)) (omega arith)

-- a well formed prim from its parts
pub made_spec : (spec : PrimSpec) → is_below_root spec.path ≡ true → list_all is_property spec.properties ≡ true → are_distinct (names spec.properties) ≡ true → is_prim_spec spec ≡ true
made_spec spec below formed distinct =
    and_is _ (are_distinct (names spec.properties)) (and_is (is_below_root spec.path) (list_all is_property spec.properties) below formed) distinct

pub others_are : (kept items ps : List Property) (text : List ℕ) (name : Name) → kept ≡ others text items → items ≡ ps → text ≡ name → kept ≡ others name ps
others_are kept items ps text name is same same_name = is ∙ ap (others text) same ∙ ap (λ (n : List ℕ). others n ps) same_name

-- a prim that is one is an equal one
pub prim_from : (r : Result StoredPrim AllocError) (p q : LayerPrim) → IfOk r (λ h. prim_of h ≡ p) → p ≡ q → IfOk r (λ h. prim_of h ≡ q)
prim_from (Ok h) p q is same = is ∙ same
prim_from (Err e) p q is same = tt

pub pushed_are : (pushed kept items ps : List Property) (text : List ℕ) (name : Name) (copied p : Property) → pushed ≡ kept ++ copied ∷ [] → kept ≡ others text items → items ≡ ps → text ≡ name → copied ≡ p → pushed ≡ others name ps ++ p ∷ []
pushed_are pushed kept items ps text name copied p more is same same_name same_copy =
    more ∙ ap (λ (xs : List Property). xs ++ copied ∷ []) (others_are kept items ps text name is same same_name) ∙ ap (λ (x : Property). others name ps ++ x ∷ []) same_copy
