-- What a flat container answers, and how it is built.
use Rattle.std.proofs.Common.{◌≡◌, ℕ, Bool, true, false, not, ◌&&◌, ◌||◌, cond, List, [], ◌∷◌, Option, Some, None, codes, refl, ap, sym, subst, ◌∙◌}
use Rattle.std.specs.List.{list_all, fold, AllByRecursion}
use Rattle.std.specs.Option.{option_or}
use Rattle.std.specs.Cmp.Lexicographic.{slice_cmp}
use Rattle.std.specs.Ordering.{nat_cmp}
use Rattle.std.proofs.lemmas.Cmp.{eq_by_cmp_equiv}
use Rattle.std.specs.FinMap.{get, empty, insert, retain_keys, get-empty, get-insert, get-retain_keys, same_map}
use Rattle.hd_path.specs.inner.Comparing.{names_same, names_ties}
use Rattle.hd_value.specs.declared.value.Value.{Value}
use Rattle.hd_value.specs.declared.value.Value.TheVariants.{Token, Tokens, Ints, Vecs, Color, Colors, Paths, Op, Matrix, Out, Flag}
use Rattle.hd_value.specs.inner.Falls.{locators_total, locators_tie}
use Rattle.hd_path.specs.Names.{is_same}
use Rattle.hd_path.specs.Paths.{is_prefix}
use Rattle.hd_path.proofs.NamePrefixes.{same_text, and_true, or_false}
use Rattle.hd_path.proofs.Logic.{true_is_not, some_is_not, either}
use Rattle.hd_value.specs.Maps.{Map}
use Rattle.hd_value.specs.Schema.{Row, allows, passed_rows, flattened_away_rows, instanced_by_row, reset_row, is_named_op, is_authored, is_instanced, IsInstanced}
use Rattle.hd_value.proofs.Getting.{eqk}
use Rattle.hd_value.proofs.Setting.{get-set_at}
use Rattle.hd_tokens.specs.Locators.{Locator, op_at, matrix_at, visibility_at, purpose_at, binding_at, color_at}
use Rattle.hd_flattening.specs.Flat.{flat_matrix, is_visible, flat_purpose, flat_binding, flat_colors}
use Rattle.hd_flattening.specs.Flattened.{passes, matrix_value, with_binding, flat_values}
use Rattle.hd_flattening.specs.inner.FlatLocators.{flat_locators, passed_locators, is_among, IsWithin, with_value, with_passed, with_all_passed, binding_value}
use Rattle.hd_flattening.proofs.Placing.{same, each_among, locators_apart}

-- what passes of a prim's own
abbrev pub passed_at : Map → List (List ℕ) → Option Value
passed_at prim q = cond (passes q) (get prim q) None

-- what is at a locator of a flat prim, but for the binding
abbrev pub unbound_at : Map → List Map → List (List ℕ) → Option Value
unbound_at prim above q =
    cond (eqk q color_at) (Some (Colors (flat_colors (prim ∷ above))))
    (cond (eqk q purpose_at) (Some (Token (flat_purpose (prim ∷ above))))
    (cond (eqk q visibility_at) (Some (Flag (is_visible (prim ∷ above))))
    (cond (eqk q matrix_at) (Some (matrix_value (flat_matrix (prim ∷ above))))
    (passed_at prim q))))

get-with_binding : (m : Map) (o : Option (List (List ℕ))) (q : Locator) → get (with_binding m o) q ≡ cond (eqk q binding_at) (option_or (binding_value o) (get m q)) (get m q)
get-with_binding m None q = elim (eqk q binding_at) as (λ b. get m q ≡ cond b (get m q) (get m q)) [ true ↦ refl | false ↦ refl ]
get-with_binding m (Some p) q = get-insert locators_total m binding_at (Paths (p ∷ [])) q

pub get-flat_values : (prim : Map) (above : List Map) (q : Locator) → get (flat_values prim above) q ≡ cond (eqk q binding_at) (option_or (binding_value (flat_binding (prim ∷ above))) (unbound_at prim above q)) (unbound_at prim above q)
unfolding flat_values
get-flat_values prim above q =
    let matrix : Value = matrix_value (flat_matrix (prim ∷ above)) in
    let shown : Value = Flag (is_visible (prim ∷ above)) in
    let meant : Value = Token (flat_purpose (prim ∷ above)) in
    let colored : Value = Colors (flat_colors (prim ∷ above)) in
    let m0 : Map = retain_keys prim passes in
    let m1 : Map = insert m0 matrix_at matrix in
    let m2 : Map = insert m1 visibility_at shown in
    let m3 : Map = insert m2 purpose_at meant in
    let m4 : Map = insert m3 color_at colored in
    let e0 : get m0 q ≡ passed_at prim q = get-retain_keys prim passes q (λ x ties. ap passes (sym (locators_tie q x ties))) in
    let e1 = get-insert locators_total m0 matrix_at matrix q ∙ ap (cond (eqk q matrix_at) (Some matrix)) e0 in
    let e2 = get-insert locators_total m1 visibility_at shown q ∙ ap (cond (eqk q visibility_at) (Some shown)) e1 in
    let e3 = get-insert locators_total m2 purpose_at meant q ∙ ap (cond (eqk q purpose_at) (Some meant)) e2 in
    let e4 = get-insert locators_total m3 color_at colored q ∙ ap (cond (eqk q color_at) (Some colored)) e3 in
    get-with_binding m4 (flat_binding (prim ∷ above)) q
    ∙ ap (λ (o : Option Value). cond (eqk q binding_at) (option_or (binding_value (flat_binding (prim ∷ above))) o) o) e4

-- two locators that begin with each other are one
both_prefixes : (a b : Locator) → is_prefix a b ≡ true → is_prefix b a ≡ true → b ≡ a
both_prefixes [] [] e f = refl
both_prefixes [] (y ∷ b) e f = true_is_not (sym f)
both_prefixes (x ∷ a) [] e f = true_is_not (sym e)
both_prefixes (x ∷ a) (y ∷ b) e f =
    let front = and_true (is_same x y) (is_prefix a b) e in
    let back = and_true (is_same y x) (is_prefix b a) f in
    ap (λ w. w ∷ b) (sym (same_text x y front.0)) ∙ ap (λ t. x ∷ t) (both_prefixes a b front.1 back.1)

-- what holds of the locator of each row holds where a row allows a value
pub row_of_value : (test : List (List ℕ) → Bool) (rows : List Row) (q : Locator) (v : Value) → list_all (λ (row : Row). test row.0) rows ≡ true → allows rows q v ≡ true → test q ≡ true
row_of_value test [] q v all e = true_is_not (sym e)
row_of_value test (row ∷ rows) q v all e =
    let both = and_true (test row.0) (list_all (λ (r : Row). test r.0) rows) all in
    elim (is_prefix row.0 q && is_prefix q row.0 && row.1 v) as (λ b. (is_prefix row.0 q && is_prefix q row.0 && row.1 v) ≡ b → (b || allows rows q v) ≡ true → test q ≡ true) [
      | true ↦ λ here _.
          let first = and_true (is_prefix row.0 q && is_prefix q row.0) (row.1 v) here in
          let prefixes = and_true (is_prefix row.0 q) (is_prefix q row.0) first.0 in
          ap test (both_prefixes row.0 q prefixes.0 prefixes.1) ∙ both.0
      | false ↦ λ _ later. row_of_value test rows q v both.1 later
    ] refl e

-- where a value passes, it is at a place
abbrev pub is_placed : List (List ℕ) → Bool
is_placed q = not (passes q) || is_among flat_locators q

-- an op is below `xform`, and does not pass
pub op_apart : (q : Locator) (v : Value) → is_named_op q v ≡ true → not (passes q) ≡ true
op_apart (a ∷ b ∷ name ∷ []) (Op op) e =
    let both = and_true (is_prefix (op_at name) (a ∷ b ∷ name ∷ [])) _ e in
    let first = and_true (is_same (codes "xform") a) _ both.0 in
    let is : codes "xform" ≡ a = same_text (codes "xform") a first.0 in
    subst (λ (w : List ℕ). not (passes (w ∷ b ∷ name ∷ [])) ≡ true) is refl
op_apart (a ∷ b ∷ name ∷ []) (Token t) e = true_is_not (sym e)
op_apart (a ∷ b ∷ name ∷ []) (Tokens ts) e = true_is_not (sym e)
op_apart (a ∷ b ∷ name ∷ []) (Ints ns) e = true_is_not (sym e)
op_apart (a ∷ b ∷ name ∷ []) (Vecs vs) e = true_is_not (sym e)
op_apart (a ∷ b ∷ name ∷ []) (Color c) e = true_is_not (sym e)
op_apart (a ∷ b ∷ name ∷ []) (Colors cs) e = true_is_not (sym e)
op_apart (a ∷ b ∷ name ∷ []) (Paths ps) e = true_is_not (sym e)
op_apart (a ∷ b ∷ name ∷ []) (Matrix m) e = true_is_not (sym e)
op_apart (a ∷ b ∷ name ∷ []) Out e = true_is_not (sym e)
op_apart (a ∷ b ∷ name ∷ []) (Flag flag) e = true_is_not (sym e)
op_apart [] v e = true_is_not (sym e)
op_apart (a ∷ []) v e = true_is_not (sym e)
op_apart (a ∷ b ∷ []) v e = true_is_not (sym e)
op_apart (a ∷ b ∷ name ∷ more ∷ rest) v e = true_is_not (sym e)

op_placed : (q : Locator) (v : Value) → is_named_op q v ≡ true → is_placed q ≡ true
op_placed q v e = ap (λ b. b || is_among flat_locators q) (op_apart q v e)

pub instanced_placed : (q : Locator) (v : Value) → is_instanced q v ≡ true → is_placed q ≡ true
instanced_placed q v e = either (is_authored q v) (allows (instanced_by_row ∷ reset_row ∷ []) q v)
    (either (allows passed_rows q v || allows flattened_away_rows q v) (is_named_op q v)
    (either (allows passed_rows q v) (allows flattened_away_rows q v) (row_of_value is_placed passed_rows q v refl) (row_of_value is_placed flattened_away_rows q v refl))
    (op_placed q v))
    (row_of_value is_placed (instanced_by_row ∷ reset_row ∷ []) q v refl)
    e

-- each value of a flat prim is at a place
pub flat_within : (prim : Map) (above : List Map) → IsInstanced prim → IsWithin flat_locators (flat_values prim above)
flat_within prim above fits q some =
    elim (is_among flat_locators q) as (λ b. is_among flat_locators q ≡ b → b ≡ true) [
      | true ↦ λ _. refl
      | false ↦ λ nowhere. absurd (some (none nowhere))
    ] refl
  where
    passed_none : is_among flat_locators q ≡ false → passed_at prim q ≡ None
    passed_none nowhere =
        elim (get prim q) as (λ o. get prim q ≡ o → cond (passes q) o None ≡ None) [
          | None ↦ λ _. elim (passes q) as (λ b. ◌≡◌ {A = Option Value} (cond b None None) None) [ true ↦ refl | false ↦ refl ]
          | Some v ↦ λ there. elim (passes q) as (λ b. passes q ≡ b → ◌≡◌ {A = Option Value} (cond b (Some v) None) None) [
            | true ↦ λ passing.
                let placed : (not (passes q) || is_among flat_locators q) ≡ true = instanced_placed q v (fits q v there) in
                true_is_not (sym placed ∙ ap (λ b. not b || is_among flat_locators q) passing ∙ nowhere)
            | false ↦ λ _. refl
          ] refl
        ] refl

    none : is_among flat_locators q ≡ false → get (flat_values prim above) q ≡ None
    none nowhere =
        let r0 = or_false (same q matrix_at) _ nowhere in
        let r1 = or_false (same q visibility_at) _ r0.1 in
        let r2 = or_false (same q purpose_at) _ r1.1 in
        let r3 = or_false (same q binding_at) _ r2.1 in
        let r4 = or_false (same q color_at) _ r3.1 in
        let e0 : eqk q matrix_at ≡ false = sym (names_ties q matrix_at) ∙ r0.0 in
        let e1 : eqk q visibility_at ≡ false = sym (names_ties q visibility_at) ∙ r1.0 in
        let e2 : eqk q purpose_at ≡ false = sym (names_ties q purpose_at) ∙ r2.0 in
        let e3 : eqk q binding_at ≡ false = sym (names_ties q binding_at) ∙ r3.0 in
        let e4 : eqk q color_at ≡ false = sym (names_ties q color_at) ∙ r4.0 in
        get-flat_values prim above q
        ∙ ap (λ b. cond b (option_or (binding_value (flat_binding (prim ∷ above))) (unbound_at prim above q)) (unbound_at prim above q)) e3
        ∙ ap (λ b. cond b (Some (Colors (flat_colors (prim ∷ above)))) (cond (eqk q purpose_at) (Some (Token (flat_purpose (prim ∷ above)))) (cond (eqk q visibility_at) (Some (Flag (is_visible (prim ∷ above)))) (cond (eqk q matrix_at) (Some (matrix_value (flat_matrix (prim ∷ above)))) (passed_at prim q))))) e4
        ∙ ap (λ b. cond b (Some (Token (flat_purpose (prim ∷ above)))) (cond (eqk q visibility_at) (Some (Flag (is_visible (prim ∷ above)))) (cond (eqk q matrix_at) (Some (matrix_value (flat_matrix (prim ∷ above)))) (passed_at prim q)))) e2
        ∙ ap (λ b. cond b (Some (Flag (is_visible (prim ∷ above)))) (cond (eqk q matrix_at) (Some (matrix_value (flat_matrix (prim ∷ above)))) (passed_at prim q))) e1
        ∙ ap (λ b. cond b (Some (matrix_value (flat_matrix (prim ∷ above)))) (passed_at prim q)) e0
        ∙ passed_none nowhere

-- the map answers as another one does at the places seen, and nothing elsewhere
pub record Holds (whole : Map) (seen : List (List (List ℕ))) (m : Map) : Type 0 where
  pub answers : (q : Locator) → get m q ≡ cond (is_among seen q) (get whole q) None

pub none_held : (whole : Map) → Holds whole [] empty
none_held whole = record { answers = get-empty (slice_cmp (slice_cmp nat_cmp)) }

nothing : (b : Bool) → ◌≡◌ {A = Option Value} (cond b None None) None
nothing true = refl
nothing false = refl

same_itself : (a : Locator) → same a a ≡ true
same_itself a = names_ties a a ∙ (eq_by_cmp_equiv locators_total).refl a

-- nothing is below a place
nothing_below : (whole : Map) (at q : Locator) → IsWithin flat_locators whole → is_among flat_locators at ≡ true → is_prefix at q ≡ true → same q at ≡ false → get whole q ≡ None
nothing_below whole at q stands among below elsewhere =
    elim (get whole q) as (λ o. get whole q ≡ o → o ≡ None) [
      | None ↦ λ _. refl
      | Some w ↦ λ there.
          let one : at ≡ q = locators_apart at q among (stands q (λ none. some_is_not w (sym there ∙ none))) below in
          true_is_not (sym (same_itself q) ∙ ap (same q) (sym one) ∙ elsewhere)
    ] refl

-- one more value of the whole
pub held_more : (whole : Map) {seen : List (List (List ℕ))} {m : Map} → Holds whole seen m → (at : Locator) (o : Option Value) → IsWithin flat_locators whole → is_among flat_locators at ≡ true → get whole at ≡ o → Holds whole (at ∷ seen) (with_value m at o)
held_more whole {seen} {m} held at None stands among is = record {
  answers = λ q. elim (same q at) as (λ b. same q at ≡ b → get m q ≡ cond (b || is_among seen q) (get whole q) None) [
    | true ↦ λ here.
        let none : get whole q ≡ None = ap (get whole) (names_same q at here) ∙ is in
        held.answers q ∙ ap (λ (o : Option Value). cond (is_among seen q) o None) none ∙ nothing (is_among seen q) ∙ sym none
    | false ↦ λ _. held.answers q
  ] refl;
}
held_more whole {seen} {m} held at (Some v) stands among is = record {
  answers = λ q. get-set_at m at v q
      ∙ ap (λ b. cond b (Some v) (cond (not (is_prefix at q)) (get m q) None)) (sym (names_ties q at))
      ∙ elim (same q at) as (λ b. same q at ≡ b → cond b (Some v) (cond (not (is_prefix at q)) (get m q) None) ≡ cond (b || is_among seen q) (get whole q) None) [
        | true ↦ λ here. sym is ∙ ap (get whole) (sym (names_same q at here))
        | false ↦ λ elsewhere. elim (is_prefix at q) as (λ b. is_prefix at q ≡ b → cond (not b) (get m q) None ≡ cond (is_among seen q) (get whole q) None) [
          | true ↦ λ below. sym (ap (λ (o : Option Value). cond (is_among seen q) o None) (nothing_below whole at q stands among below elsewhere) ∙ nothing (is_among seen q))
          | false ↦ λ _. held.answers q
        ] refl
      ] refl;
}

-- the same of what passes at some places
pub held_passed : (prim whole : Map) → IsWithin flat_locators whole → (places : List (List (List ℕ))) {seen : List (List (List ℕ))} {m : Map} → Holds whole seen m
    → AllByRecursion (λ at. (is_among flat_locators at ≡ true) × (get whole at ≡ get prim at)) places → Holds whole (fold (λ ats at. at ∷ ats) seen places) (fold (with_passed prim) m places)
held_passed prim whole stands [] {seen} {m} held all = held
held_passed prim whole stands (at ∷ places) {seen} {m} held all =
    held_passed prim whole stands places {seen = at ∷ seen} {m = with_passed prim m at} (held_more whole held at (get prim at) stands all.0.0 all.0.1) all.1

-- a map that answers as the whole at each place is the whole
pub all_held : (whole : Map) {seen : List (List (List ℕ))} {m : Map} → Holds whole seen m → IsWithin flat_locators whole → list_all (is_among seen) flat_locators ≡ true → m ≡ whole
all_held whole {seen} {m} held stands all = same_map locators_total locators_tie m whole (λ q.
    held.answers q ∙ elim (is_among seen q) as (λ b. is_among seen q ≡ b → cond b (get whole q) None ≡ get whole q) [
      | true ↦ λ _. refl
      | false ↦ λ unseen. elim (get whole q) as (λ o. get whole q ≡ o → None ≡ o) [
        | None ↦ λ _. refl
        | Some v ↦ λ there. true_is_not (sym (each_among (is_among seen) flat_locators q all (stands q (λ none. some_is_not v (sym there ∙ none)))) ∙ unseen)
      ] refl
    ] refl)

-- one value more, in a map that is another one
pub put_more : {m n k : Map} (at : Locator) {o p : Option Value} → k ≡ with_value n at o → n ≡ m → o ≡ p → k ≡ with_value m at p
put_more {m} at {o} put is valued = put ∙ ap (λ (n : Map). with_value n at o) is ∙ ap (with_value m at) valued

-- nothing is in the empty map
pub empty_within : (m : Map) → m ≡ empty → IsWithin flat_locators m
empty_within m is q some = absurd (some (ap (λ (n : Map). get n q) is ∙ get-empty (slice_cmp (slice_cmp nat_cmp)) q))

-- the flat values, put one after the other
pub built : (prim : Map) (above : List Map) → IsInstanced prim →
    with_all_passed prim
    (with_value (with_value (with_value (with_value (with_value empty matrix_at (Some (matrix_value (flat_matrix (prim ∷ above))))) visibility_at (Some (Flag (is_visible (prim ∷ above))))) purpose_at (Some (Token (flat_purpose (prim ∷ above))))) binding_at (binding_value (flat_binding (prim ∷ above)))) color_at (Some (Colors (flat_colors (prim ∷ above)))))
    ≡ flat_values prim above
built prim above fits =
    let whole : Map = flat_values prim above in
    let stands : IsWithin flat_locators whole = flat_within prim above fits in
    let at : (q : Locator) → get whole q ≡ cond (eqk q binding_at) (option_or (binding_value (flat_binding (prim ∷ above))) (unbound_at prim above q)) (unbound_at prim above q) = get-flat_values prim above in
    let h0 = none_held whole in
    let h1 = held_more whole h0 matrix_at (Some (matrix_value (flat_matrix (prim ∷ above)))) stands refl (at matrix_at) in
    let h2 = held_more whole h1 visibility_at (Some (Flag (is_visible (prim ∷ above)))) stands refl (at visibility_at) in
    let h3 = held_more whole h2 purpose_at (Some (Token (flat_purpose (prim ∷ above)))) stands refl (at purpose_at) in
    let h4 = held_more whole h3 binding_at (binding_value (flat_binding (prim ∷ above))) stands refl (at binding_at ∙ or_none (binding_value (flat_binding (prim ∷ above)))) in
    let h5 = held_more whole h4 color_at (Some (Colors (flat_colors (prim ∷ above)))) stands refl (at color_at) in
    let passed = held_passed prim whole stands passed_locators h5 ((refl, at _), ((refl, at _), ((refl, at _), ((refl, at _), ((refl, at _), ((refl, at _), ((refl, at _), ((refl, at _), tt)))))))) in
    all_held whole passed stands refl
  where
    or_none : (o : Option Value) → option_or o None ≡ o
    or_none None = refl
    or_none (Some v) = refl
