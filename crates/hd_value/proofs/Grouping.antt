-- Each value is under the locators of one group.
use Rattle.std.proofs.Common.{◌≡◌, ℕ, Bool, true, ◌&&◌, ◌||◌, ◌==◌, List, [], ◌∷◌, codes, refl, ap, sym, ◌∙◌}
use Rattle.std.specs.List.{count_by, list_all}
use Rattle.std.proofs.lemmas.Bool.Decides.{Decides-eqb}
use Rattle.hd_tokens.specs.Locators.{Locator, op_at}
use Rattle.hd_value.specs.declared.value.Value.{Value}
use Rattle.hd_value.specs.declared.value.Value.TheVariants.{Token, Tokens, Ints, Vecs, Color, Colors, Paths, Op, Matrix, Out, Flag}
use Rattle.hd_value.specs.Groups.{locator_of_group, locators_before_flattening}
use Rattle.hd_value.specs.Laws.{groups, FlattenedHaveOneGroup, InstancedHaveOneGroup}
use Rattle.hd_value.specs.Locators.{intersects}
use Rattle.hd_value.specs.LocatorSets.{touches}
use Rattle.hd_value.specs.Schema.{Row, passed_rows, flattened_away_rows, instanced_by_row, reset_row, flattened_rows, allows, is_named_op}
use Rattle.hd_path.specs.Names.{is_same}
use Rattle.hd_path.specs.Paths.{is_prefix}
use Rattle.hd_path.proofs.NamePrefixes.{and_true, same_text}
use Rattle.hd_path.proofs.Logic.{false_is_not, either}

-- two locators that begin with each other are one
both_prefixes : (a b : Locator) → is_prefix a b ≡ true → is_prefix b a ≡ true → a ≡ b
both_prefixes [] [] e f = refl
both_prefixes [] (y ∷ b) e f = false_is_not f
both_prefixes (x ∷ a) [] e f = false_is_not e
both_prefixes (x ∷ a) (y ∷ b) e f =
    let front = and_true (is_same x y) (is_prefix a b) e in
    let back = and_true (is_same y x) (is_prefix b a) f in
    ap (λ w. w ∷ a) (same_text x y front.0) ∙ ap (λ t. y ∷ t) (both_prefixes a b front.1 back.1)

-- what holds of the locator of each row holds where a row allows a value
at_rows : (test : Locator → Bool) (rows : List Row) (at : Locator) (v : Value) → list_all (λ (row : Row). test row.0) rows ≡ true → allows rows at v ≡ true → test at ≡ true
at_rows test [] at v all e = false_is_not e
at_rows test (row ∷ rows) at v all e =
    let each = and_true (test row.0) (list_all (λ (r : Row). test r.0) rows) all in
    either (is_prefix row.0 at && is_prefix at row.0 && row.1 v) (allows rows at v)
    (λ here.
    let there = and_true (is_prefix row.0 at && is_prefix at row.0) (row.1 v) here in
    let prefixes = and_true (is_prefix row.0 at) (is_prefix at row.0) there.0 in
    ap test (sym (both_prefixes row.0 at prefixes.0 prefixes.1)) ∙ each.0)
    (λ later. at_rows test rows at v each.1 later) e

-- what holds of each locator of an op holds wherever an op may be
at_ops : (test : Locator → Bool) (at : Locator) (v : Value) → ((name : List ℕ) → test (op_at name) ≡ true) → is_named_op at v ≡ true → test at ≡ true
at_ops test (a ∷ b ∷ name ∷ []) (Op op) all e =
    let both = and_true (is_prefix (op_at name) (a ∷ b ∷ name ∷ [])) _ e in
    let first = and_true (is_same (codes "xform") a) (is_prefix (codes "ops" ∷ name ∷ []) (b ∷ name ∷ [])) both.0 in
    let second = and_true (is_same (codes "ops") b) (is_prefix (name ∷ []) (name ∷ [])) first.1 in
    ap (λ (w : List ℕ). test (w ∷ b ∷ name ∷ [])) (sym (same_text (codes "xform") a first.0))
    ∙ ap (λ (w : List ℕ). test (codes "xform" ∷ w ∷ name ∷ [])) (sym (same_text (codes "ops") b second.0))
    ∙ all name
at_ops test (a ∷ b ∷ name ∷ []) (Token t) all e = false_is_not e
at_ops test (a ∷ b ∷ name ∷ []) (Tokens ts) all e = false_is_not e
at_ops test (a ∷ b ∷ name ∷ []) (Ints ns) all e = false_is_not e
at_ops test (a ∷ b ∷ name ∷ []) (Vecs vs) all e = false_is_not e
at_ops test (a ∷ b ∷ name ∷ []) (Color c) all e = false_is_not e
at_ops test (a ∷ b ∷ name ∷ []) (Colors cs) all e = false_is_not e
at_ops test (a ∷ b ∷ name ∷ []) (Paths ps) all e = false_is_not e
at_ops test (a ∷ b ∷ name ∷ []) (Matrix m) all e = false_is_not e
at_ops test (a ∷ b ∷ name ∷ []) Out all e = false_is_not e
at_ops test (a ∷ b ∷ name ∷ []) (Flag flag) all e = false_is_not e
at_ops test [] v all e = false_is_not e
at_ops test (a ∷ []) v all e = false_is_not e
at_ops test (a ∷ b ∷ []) v all e = false_is_not e
at_ops test (a ∷ b ∷ name ∷ more ∷ rest) v all e = false_is_not e

abbrev in_one : Locator → Bool
in_one at = count_by (λ group. intersects (locator_of_group group) at) groups == 1

abbrev in_one_before : Locator → Bool
in_one_before at = count_by (λ group. touches (locators_before_flattening group) at) groups == 1

pub flattened_have_one_group : FlattenedHaveOneGroup
flattened_have_one_group at v e =
    (Decides-eqb (count_by (λ group. intersects (locator_of_group group) at) groups) 1).0
    (either (allows passed_rows at v || allows (instanced_by_row ∷ []) at v) (allows flattened_rows at v)
    (λ kept. either (allows passed_rows at v) (allows (instanced_by_row ∷ []) at v) (at_rows in_one passed_rows at v refl) (at_rows in_one (instanced_by_row ∷ []) at v refl) kept)
    (at_rows in_one flattened_rows at v refl) e)

pub instanced_have_one_group : InstancedHaveOneGroup
instanced_have_one_group at v e =
    (Decides-eqb (count_by (λ group. touches (locators_before_flattening group) at) groups) 1).0
    (either ((allows passed_rows at v || allows flattened_away_rows at v) || is_named_op at v) (allows (instanced_by_row ∷ reset_row ∷ []) at v)
    (λ authored. either (allows passed_rows at v || allows flattened_away_rows at v) (is_named_op at v)
    (λ row. either (allows passed_rows at v) (allows flattened_away_rows at v) (at_rows in_one_before passed_rows at v refl) (at_rows in_one_before flattened_away_rows at v refl) row)
    (at_ops in_one_before at v (λ name. refl)) authored)
    (at_rows in_one_before (instanced_by_row ∷ reset_row ∷ []) at v refl) e)
