-- Two levels in order, merged into one.
use Rattle.std.proofs.Common.{◌≡◌, ◌⊎◌, inl, inr, ℕ, true, false, if◌then◌else◌, List, [], ◌∷◌, ◌++◌, length, Option, Some, None, refl, ap, sym, subst, ◌∙◌, append-nil, arith}
use Rattle.std.specs.declared.cmp.Ordering.TheVariants.{Less, Equal, Greater}
use Rattle.std.specs.FinMap.Entries.{by_order}
use Rattle.hd_value.specs.declared.container.Entry.{Entry}
use Rattle.hd_value.specs.declared.container.Source.{Source}
use Rattle.hd_path.specs.Names.{is_same, byte_order}
use Rattle.hd_path.proofs.NamePrefixes.{same_text}
use Rattle.hd_value.specs.inner.Entries.{source_at, IsBefore, AreEntries}
use Rattle.hd_value.specs.Maps.{Map}
use Rattle.hd_value.specs.inner.Overlays.{merged_source, merged_at, overlaid_on, IsOver}
use Rattle.hd_value.proofs.Sorting.{order_ties, none_before, before_further, below_turned}
use Rattle.hd_value.proofs.Getting.{map_of}
use Rattle.hd_value.proofs.Overlaying.{merged_filled, merged_level}

-- an entry, and the entries after it by `rest`, merged with a level
abbrev pub merge_with : Entry → (List Entry → List Entry) → List Entry → List Entry
merge_with e rest [] = e ∷ rest []
merge_with e rest (f ∷ fs) =
    by_order (byte_order e.token f.token) (e ∷ rest (f ∷ fs)) (record { token = e.token; source = merged_source e.source f.source } ∷ rest fs) (f ∷ merge_with e rest fs)

-- the entries of both levels in order, the first over the second where a token is in both
abbrev pub merge : List Entry → List Entry → List Entry
merge [] fs = fs
merge (e ∷ es) fs = merge_with e (merge es) fs

merged_at-none : (o : Option Source) → merged_at o None ≡ o
merged_at-none None = refl
merged_at-none (Some s) = refl

module _ (e : Entry) (es : List Entry) where
  before-merge_with : (t : List ℕ) → byte_order t e.token ≡ Less → ((fs : List Entry) → IsBefore t fs → IsBefore t (merge es fs)) → (fs : List Entry) → IsBefore t fs → IsBefore t (merge_with e (merge es) fs)
  before-merge_with t low rest [] g = (low, rest [] tt)
  before-merge_with t low rest (f ∷ fs) g =
      elim (byte_order e.token f.token) as (λ r. IsBefore t (by_order r (e ∷ merge es (f ∷ fs)) (record { token = e.token; source = merged_source e.source f.source } ∷ merge es fs) (f ∷ merge_with e (merge es) fs))) [
        | Less ↦ (low, rest (f ∷ fs) g)
        | Equal ↦ (low, rest fs g.1)
        | Greater ↦ (g.0, before-merge_with t low rest fs g.1)
      ]

before-merge : (t : List ℕ) (es fs : List Entry) → IsBefore t es → IsBefore t fs → IsBefore t (merge es fs)
before-merge t [] fs h g = g
before-merge t (e ∷ es) fs h g = before-merge_with e es t h.0 (λ gs. before-merge t es gs h.1) fs g

module _ (e : Entry) (es : List Entry) (h : AreEntries (e ∷ es)) (rest : (fs : List Entry) → AreEntries fs → IsOver es fs (merge es fs)) where
  missing : (t : List ℕ) → byte_order t e.token ≡ Less → source_at t (e ∷ es) ≡ None
  missing t low = none_before t (e ∷ es) (low, before_further t e.token es low h.1)

  laid-merge_with : (fs : List Entry) → AreEntries fs → IsOver (e ∷ es) fs (merge_with e (merge es) fs)
  laid-merge_with [] g = record {
    entries = (h.0, before-merge e.token es [] h.1 tt, (rest [] tt).entries);
    at_token = λ t. ap (λ o. if is_same t e.token then Some e.source else o) ((rest [] tt).at_token t ∙ merged_at-none (source_at t es)) ∙ sym (merged_at-none (source_at t (e ∷ es)));
  }
  laid-merge_with (f ∷ fs) g =
      elim (byte_order e.token f.token) as (λ r. byte_order e.token f.token ≡ r → IsOver (e ∷ es) (f ∷ fs) (by_order r (e ∷ merge es (f ∷ fs)) (record { token = e.token; source = merged_source e.source f.source } ∷ merge es fs) (f ∷ merge_with e (merge es) fs))) [
        | Less ↦ λ is.
            let later = rest (f ∷ fs) g in
            let after : IsBefore e.token (f ∷ fs) = (is, before_further e.token f.token fs is g.1) in
            record {
              entries = (h.0, before-merge e.token es (f ∷ fs) h.1 after, later.entries);
              at_token = λ t. elim (is_same t e.token) as (λ b. is_same t e.token ≡ b → (if b then Some e.source else source_at t (merge es (f ∷ fs))) ≡ merged_at (if b then Some e.source else source_at t es) (source_at t (f ∷ fs))) [
                | true ↦ λ same. ap (merged_at (Some e.source)) (sym (ap (λ w. source_at w (f ∷ fs)) (same_text t e.token same) ∙ none_before e.token (f ∷ fs) after))
                | false ↦ λ _. later.at_token t
              ] refl;
            }
        | Equal ↦ λ is.
            let later = rest fs g.2 in
            let tie : e.token ≡ f.token = order_ties e.token f.token is in
            let after : IsBefore e.token fs = subst (λ (w : List ℕ). IsBefore w fs) (sym tie) g.1 in
            record {
              entries = (merged_filled e.source f.source h.0 g.0, before-merge e.token es fs h.1 after, later.entries);
              at_token = λ t. elim (is_same t e.token) as (λ b. (if b then Some (merged_source e.source f.source) else source_at t (merge es fs)) ≡ merged_at (if b then Some e.source else source_at t es) (if b then Some f.source else source_at t fs)) [ true ↦ refl | false ↦ later.at_token t ]
                  ∙ ap (λ w. merged_at (source_at t (e ∷ es)) (if is_same t w then Some f.source else source_at t fs)) tie;
            }
        | Greater ↦ λ is.
            let later = laid-merge_with fs g.2 in
            let low : byte_order f.token e.token ≡ Less = below_turned e.token f.token is in
            record {
              entries = (g.0, before-merge f.token (e ∷ es) fs (low, before_further f.token e.token es low h.1) g.1, later.entries);
              at_token = λ t. elim (is_same t f.token) as (λ b. is_same t f.token ≡ b → (if b then Some f.source else source_at t (merge_with e (merge es) fs)) ≡ merged_at (source_at t (e ∷ es)) (if b then Some f.source else source_at t fs)) [
                | true ↦ λ same. ap (λ o. merged_at o (Some f.source)) (sym (ap (λ w. source_at w (e ∷ es)) (same_text t f.token same) ∙ missing f.token low))
                | false ↦ λ _. later.at_token t
              ] refl;
            }
      ] refl

-- the merged entries are those of one level over the other
pub laid-merge : (es fs : List Entry) → AreEntries es → AreEntries fs → IsOver es fs (merge es fs)
laid-merge [] fs h g = record { entries = g; at_token = λ t. refl }
laid-merge (e ∷ es) fs h g = laid-merge_with e es h (λ gs. laid-merge es gs h.2) fs g

-- nothing over a level, and a level over nothing
pub laid-nothing_over : (fs : List Entry) → AreEntries fs → IsOver [] fs fs
laid-nothing_over fs g = record { entries = g; at_token = λ t. refl }

pub laid-over_nothing : (es : List Entry) → AreEntries es → IsOver es [] es
laid-over_nothing es h = record { entries = h; at_token = λ t. sym (merged_at-none (source_at t es)) }

no_entries : (es : List Entry) → length es ≡ 0 → es ≡ []
no_entries [] e = refl
no_entries (x ∷ es) e = absurd (omega arith)

pub over_by_nothing : (m n : Map) (es fs : List Entry) → m ≡ map_of es → n ≡ map_of fs → AreEntries fs → length es ≡ 0 → n ≡ overlaid_on m n
over_by_nothing m n es fs is under g none =
    is_under ∙ merged_level [] fs fs tt g (laid-nothing_over fs g) ∙ ap (λ k. overlaid_on k (map_of fs)) (sym (is ∙ ap map_of (no_entries es none))) ∙ ap (overlaid_on m) (sym under)
  where
    is_under : n ≡ map_of fs
    is_under = under

pub over_nothing : (m n : Map) (es fs : List Entry) → m ≡ map_of es → n ≡ map_of fs → AreEntries es → length fs ≡ 0 → m ≡ overlaid_on m n
over_nothing m n es fs is under h none =
    is ∙ merged_level es [] es h tt (laid-over_nothing es h) ∙ ap (λ k. overlaid_on k (map_of [])) (sym is) ∙ ap (overlaid_on m) (sym (under ∙ ap map_of (no_entries fs none)))

pub over_level : (m n : Map) (es fs all : List Entry) → m ≡ map_of es → n ≡ map_of fs → AreEntries es → AreEntries fs → IsOver es fs all → map_of all ≡ overlaid_on m n
over_level m n es fs all is under h g laid = merged_level es fs all h g laid ∙ ap (λ k. overlaid_on k (map_of fs)) (sym is) ∙ ap (overlaid_on m) (sym under)

merge-nothing : (es : List Entry) → merge es [] ≡ es
merge-nothing [] = refl
merge-nothing (e ∷ es) = ap (λ fs. e ∷ fs) (merge-nothing es)

-- what is left of one level where the other one is at its end
pub merge-rest : (es fs : List Entry) → (length es ≡ 0) ⊎ (length fs ≡ 0) → merge es fs ≡ es ++ fs
merge-rest es fs (inl none) = ap (λ gs. merge gs fs) (no_entries es none) ∙ ap (λ gs. gs ++ fs) (sym (no_entries es none))
merge-rest es fs (inr none) = ap (merge es) (no_entries fs none) ∙ merge-nothing es ∙ sym (append-nil es) ∙ ap (λ gs. es ++ gs) (sym (no_entries fs none))
