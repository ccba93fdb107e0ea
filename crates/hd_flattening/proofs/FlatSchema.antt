-- Flat prims have the values that flattening gives.
use Rattle.std.proofs.Common.{◌≡◌, ℕ, zero, suc, Bool, true, false, not, ◌&&◌, ◌||◌, cond, List, [], ◌∷◌, take, Option, Some, None, codes, refl, ap, sym, subst, ◌∙◌}
use Rattle.std.specs.Option.{option_map, option_map_or, option_or}
use Rattle.std.specs.Prelude.{unwrap_or}
use Rattle.std.specs.FinMap.{get, empty}
use Rattle.hd_num.specs.Matrices.{Rows}
use Rattle.hd_tokens.specs.Properties.{purposes}
use Rattle.hd_value.specs.declared.value.Value.{Value}
use Rattle.hd_value.specs.declared.value.Value.TheVariants.{Token, Tokens, Ints, Vecs, Color, Colors, Paths, Op, Matrix, Out, Flag}
use Rattle.hd_path.specs.Paths.{Path, is_prefix}
use Rattle.hd_path.proofs.Logic.{true_is_not, some_is_not, either}
use Rattle.hd_value.specs.Maps.{Map}
use Rattle.hd_value.specs.Schema.{allows, passed_rows, flattened_away_rows, instanced_by_row, reset_row, flattened_rows, is_named_op, is_authored, is_instanced, is_flattened, is_word_of, Conforms, IsInstanced}
use Rattle.hd_value.proofs.Getting.{eqk, eqk_same}
use Rattle.hd_scene.specs.Scenes.{Scene, SceneConforms}
use Rattle.hd_scene.specs.declared.prims.Entry.{Entry}
use Rattle.hd_tokens.specs.Locators.{Locator, matrix_at, visibility_at, purpose_at, binding_at, color_at}
use Rattle.hd_flattening.specs.Values.{token_of}
use Rattle.hd_flattening.specs.Flat.{values_at, values_up, ancestors, nearest, authored_purpose, flat_matrix, is_visible, flat_purpose, flat_binding, flat_colors}
use Rattle.hd_flattening.specs.Flattened.{passes, matrix_value, flat_entry, flat_values}
use Rattle.hd_flattening.specs.Laws.{FlattenedConforms}
use Rattle.hd_flattening.specs.inner.FlatLocators.{binding_value}
use Rattle.hd_flattening.specs.Scenes.{get-flattened}
use Rattle.hd_flattening.proofs.Building.{unbound_at, get-flat_values, row_of_value, op_apart}
use Rattle.hd_flattening.proofs.Conforming.{empty_conforms}

abbrev pub EachInstanced : List Map → Type 0
EachInstanced [] = Unit {0}
EachInstanced (m ∷ ms) = IsInstanced m × EachInstanced ms

-- a purpose that is authored is a word for one
authored_word : (o : Option Value) → ((v : Value) → o ≡ Some v → is_instanced purpose_at v ≡ true) → (t : List ℕ) → token_of o ≡ Some t → is_word_of purposes (Token t) ≡ true
authored_word None fits t e = some_is_not t (sym e)
authored_word (Some (Token s)) fits t e =
    let one : s ≡ t = cc in
    subst (λ (w : List ℕ). is_word_of purposes (Token w) ≡ true) one (elim (is_word_of purposes (Token s)) as (λ b. (((b || false) || false) || false) ≡ true → b ≡ true) [ true ↦ λ _. refl | false ↦ λ unlike. unlike ] (fits (Token s) refl))
authored_word (Some (Tokens ts)) fits t e = some_is_not t (sym e)
authored_word (Some (Ints ns)) fits t e = some_is_not t (sym e)
authored_word (Some (Vecs vs)) fits t e = some_is_not t (sym e)
authored_word (Some (Color c)) fits t e = some_is_not t (sym e)
authored_word (Some (Colors cs)) fits t e = some_is_not t (sym e)
authored_word (Some (Paths ps)) fits t e = some_is_not t (sym e)
authored_word (Some (Op op)) fits t e = some_is_not t (sym e)
authored_word (Some (Matrix m)) fits t e = some_is_not t (sym e)
authored_word (Some Out) fits t e = some_is_not t (sym e)
authored_word (Some (Flag f)) fits t e = some_is_not t (sym e)

purpose_word : (prims : List Map) → EachInstanced prims → is_word_of purposes (Token (flat_purpose prims)) ≡ true
purpose_word [] others = refl
purpose_word (prim ∷ above) others =
    elim (authored_purpose prim) as (λ o. authored_purpose prim ≡ o → is_word_of purposes (Token (unwrap_or (option_or o (nearest authored_purpose above)) (codes "default"))) ≡ true) [
      | None ↦ λ _. purpose_word above others.1
      | Some t ↦ λ is. authored_word (get prim purpose_at) (λ v e. others.0 purpose_at v e) t is
    ] refl

-- what passes of an instanced prim may be in a flat one
passed_flat : (q : Locator) (v : Value) → passes q ≡ true → is_instanced q v ≡ true → is_flattened q v ≡ true
passed_flat q v passing e = either (is_authored q v) (allows (instanced_by_row ∷ reset_row ∷ []) q v)
    (either (allows passed_rows q v || allows flattened_away_rows q v) (is_named_op q v)
    (either (allows passed_rows q v) (allows flattened_away_rows q v)
    (λ is. ap (λ b. b || allows (instanced_by_row ∷ []) q v || allows flattened_rows q v) is)
    (λ away. gone (row_of_value (λ at. not (passes at)) flattened_away_rows q v refl away)))
    (λ op. gone (op_apart q v op)))
    (λ added. either (allows (instanced_by_row ∷ []) q v) (allows (reset_row ∷ []) q v)
    (λ is. ap (λ b. (allows passed_rows q v || b) || allows flattened_rows q v) is ∙ either_true (allows passed_rows q v))
    (λ reset. gone (row_of_value (λ at. not (passes at)) (reset_row ∷ []) q v refl reset))
    (regroup (is_prefix instanced_by_row.0 q && is_prefix q instanced_by_row.0 && instanced_by_row.1 v) (allows (reset_row ∷ []) q v) added))
    e
  where
    regroup : (a b : Bool) → (a || b) ≡ true → ((a || false) || b) ≡ true
    regroup true b h = refl
    regroup false b h = h

    either_true : (b : Bool) → ((b || true) || allows flattened_rows q v) ≡ true
    either_true true = refl
    either_true false = refl

    gone : {P : Type 0} → not (passes q) ≡ true → P
    gone stopped = true_is_not (sym stopped ∙ ap not passing)

matrix_flat : (m : Option Rows) → is_flattened matrix_at (matrix_value m) ≡ true
matrix_flat None = refl
matrix_flat (Some rows) = refl

-- a choice by whether two locators are one
chosen : {P : Type 0} (q at : Locator) (a b : Option Value) (v : Value) → cond (eqk q at) a b ≡ Some v → (q ≡ at → a ≡ Some v → P) → (b ≡ Some v → P) → P
chosen {P} q at a b v e here elsewhere =
    elim (eqk q at) as (λ t. eqk q at ≡ t → cond t a b ≡ Some v → P) [
      | true ↦ λ same is. here (eqk_same q at same) is
      | false ↦ λ _ is. elsewhere is
    ] refl e

stands_flat : (at : Locator) (value : Value) (q : Locator) (v : Value) → is_flattened at value ≡ true → q ≡ at → Some value ≡ Some v → is_flattened q v ≡ true
stands_flat at value q v flat same is =
    let one : value ≡ v = cc in
    ap (λ (k : List (List ℕ)). is_flattened k v) same ∙ ap (is_flattened at) (sym one) ∙ flat

word_flat : (t : List ℕ) → is_word_of purposes (Token t) ≡ true → is_flattened purpose_at (Token t) ≡ true
word_flat t word = ap (λ b. b || false) word

flat_conforms : (prim : Map) (above : List Map) → IsInstanced prim → EachInstanced above → Conforms is_flattened (flat_values prim above)
flat_conforms prim above fits others q v there =
    chosen q binding_at (option_or (binding_value (flat_binding (prim ∷ above))) (unbound_at prim above q)) (unbound_at prim above q) v (sym (get-flat_values prim above q) ∙ there)
    (λ same is. bound (flat_binding (prim ∷ above)) same is)
    unbound
  where
    unbound : unbound_at prim above q ≡ Some v → is_flattened q v ≡ true
    unbound is =
        chosen q color_at _ _ v is (stands_flat color_at (Colors (flat_colors (prim ∷ above))) q v refl) (λ is1.
        chosen q purpose_at _ _ v is1 (stands_flat purpose_at (Token (flat_purpose (prim ∷ above))) q v (word_flat (flat_purpose (prim ∷ above)) (purpose_word (prim ∷ above) (fits, others)))) (λ is2.
        chosen q visibility_at _ _ v is2 (stands_flat visibility_at (Flag (is_visible (prim ∷ above))) q v refl) (λ is3.
        chosen q matrix_at _ _ v is3 (stands_flat matrix_at (matrix_value (flat_matrix (prim ∷ above))) q v (matrix_flat (flat_matrix (prim ∷ above)))) (λ is4.
        elim (passes q) as (λ b. passes q ≡ b → cond b (get prim q) None ≡ Some v → is_flattened q v ≡ true) [
          | true ↦ λ passing is5. passed_flat q v passing (fits q v is5)
          | false ↦ λ _ none. some_is_not v (sym none)
        ] refl is4))))

    bound : (o : Option (List (List ℕ))) → q ≡ binding_at → option_or (binding_value o) (unbound_at prim above q) ≡ Some v → is_flattened q v ≡ true
    bound None same is = some_is_not v (sym is ∙ ap (unbound_at prim above) same)
    bound (Some p) same is = stands_flat binding_at (Paths (p ∷ [])) q v refl same is

values_conform : (scene : Scene) (path : Path) → SceneConforms is_instanced scene → IsInstanced (values_at scene path)
values_conform scene path conforms =
    elim (get scene path) as (λ o. get scene path ≡ o → IsInstanced (option_map_or (λ (e : Entry). e.values) o empty)) [
      | None ↦ λ _. empty_conforms is_instanced empty refl
      | Some e ↦ λ there. conforms path e there
    ] refl

up_conforms : (scene : Scene) (path : Path) (n : ℕ) → SceneConforms is_instanced scene → EachInstanced (values_up scene path n)
up_conforms scene path zero conforms = tt
up_conforms scene path (suc n) conforms = (values_conform scene (take (suc n) path) conforms, up_conforms scene path n conforms)

pub flattened_conforms : FlattenedConforms
flattened_conforms scene conforms path e there =
    by (get scene path) (λ d is. conforms path d is) (sym (get-flattened scene path) ∙ there)
  where
    by : (o : Option Entry) → ((d : Entry) → o ≡ Some d → IsInstanced d.values) → option_map (flat_entry scene path) o ≡ Some e → Conforms is_flattened e.values
    by None fits is = some_is_not e (sym is)
    by (Some d) fits is =
        let one : flat_entry scene path d ≡ e = cc in
        subst (λ (f : Entry). Conforms is_flattened f.values) one (flat_conforms d.values (ancestors scene path) (fits d refl) (up_conforms scene path _ conforms))
