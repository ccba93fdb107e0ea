-- No value that a text can author may be above another one.
use Rattle.std.proofs.Common.{◌≡◌, ℕ, Bool, true, false, not, ◌&&◌, ◌||◌, List, [], ◌∷◌, codes, refl, ap, sym, subst, ◌∙◌}
use Rattle.std.specs.List.{list_all}
use Rattle.hd_path.specs.inner.Comparing.{names_same}
use Rattle.hd_tokens.specs.Locators.{Locator, op_at}
use Rattle.hd_value.specs.declared.value.Value.{Value}
use Rattle.hd_value.specs.declared.value.Value.TheVariants.{Token, Tokens, Ints, Vecs, Color, Colors, Paths, Op, Matrix, Out, Flag}
use Rattle.hd_path.specs.Names.{Name, is_same}
use Rattle.hd_path.specs.Paths.{is_prefix}
use Rattle.hd_path.proofs.NamePrefixes.{and_true, same_text}
use Rattle.hd_path.proofs.Logic.{true_is_not, either}
use Rattle.hd_value.specs.Schema.{Row, allows, passed_rows, flattened_away_rows, is_named_op, is_authored}
use Rattle.hd_merging.specs.Laws.{IsUnnested}
use Rattle.hd_flattening.proofs.Placing.{same}
use Rattle.hd_flattening.proofs.Building.{row_of_value}

named_op : (at : Locator) (v : Value) → is_named_op at v ≡ true → (name : Name) × (at ≡ op_at name)
named_op (a ∷ b ∷ name ∷ []) (Op op) e =
    let both = and_true (is_prefix (op_at name) (a ∷ b ∷ name ∷ [])) _ e in
    let first = and_true (is_same (codes "xform") a) (is_prefix (codes "ops" ∷ name ∷ []) (b ∷ name ∷ [])) both.0 in
    let second = and_true (is_same (codes "ops") b) (is_prefix (name ∷ []) (name ∷ [])) first.1 in
    (name, ap (λ (w : List ℕ). w ∷ b ∷ name ∷ []) (sym (same_text (codes "xform") a first.0)) ∙ ap (λ (w : List ℕ). codes "xform" ∷ w ∷ name ∷ []) (sym (same_text (codes "ops") b second.0)))
named_op (a ∷ b ∷ name ∷ []) (Token t) e = true_is_not (sym e)
named_op (a ∷ b ∷ name ∷ []) (Tokens ts) e = true_is_not (sym e)
named_op (a ∷ b ∷ name ∷ []) (Ints ns) e = true_is_not (sym e)
named_op (a ∷ b ∷ name ∷ []) (Vecs vs) e = true_is_not (sym e)
named_op (a ∷ b ∷ name ∷ []) (Color c) e = true_is_not (sym e)
named_op (a ∷ b ∷ name ∷ []) (Colors cs) e = true_is_not (sym e)
named_op (a ∷ b ∷ name ∷ []) (Paths ps) e = true_is_not (sym e)
named_op (a ∷ b ∷ name ∷ []) (Matrix m) e = true_is_not (sym e)
named_op (a ∷ b ∷ name ∷ []) Out e = true_is_not (sym e)
named_op (a ∷ b ∷ name ∷ []) (Flag f) e = true_is_not (sym e)
named_op [] v e = true_is_not (sym e)
named_op (a ∷ []) v e = true_is_not (sym e)
named_op (a ∷ b ∷ []) v e = true_is_not (sym e)
named_op (a ∷ b ∷ name ∷ more ∷ rest) v e = true_is_not (sym e)

-- whether the locator of each row passes the test
abbrev of_each : (List (List ℕ) → Bool) → List Row → Bool
of_each test rows = list_all (λ (row : Row). test row.0) rows

-- what holds of the locators of the rows and of the ops holds where a text can author a value
module _ (test : List (List ℕ) → Bool) (passed : of_each test passed_rows ≡ true) (away : of_each test flattened_away_rows ≡ true) (op : (name : Name) → test (op_at name) ≡ true) where
  authored_passes : (at : Locator) (v : Value) → is_authored at v ≡ true → test at ≡ true
  authored_passes at v e =
      either (allows passed_rows at v || allows flattened_away_rows at v) (is_named_op at v)
      (either (allows passed_rows at v) (allows flattened_away_rows at v) (row_of_value test passed_rows at v passed) (row_of_value test flattened_away_rows at v away))
      (λ there. let named = named_op at v there in ap test named.1 ∙ op named.0)
      e

-- the second locator begins with the first only where the two are one
abbrev apart : List (List ℕ) → List (List ℕ) → Bool
apart a b = not (is_prefix a b) || same a b

ops_apart : (name other : Name) → apart (op_at name) (op_at other) ≡ true
ops_apart name other = elim (is_same name other) as (λ b. (not (b && true) || (b && true)) ≡ true) [ true ↦ refl | false ↦ refl ]

pub authored_unnested : IsUnnested is_authored
authored_unnested a b v w above below prefix =
    let passed : of_each (λ (p : Locator). apart p b) passed_rows ≡ true = authored_passes (λ q. of_each (λ p. apart p q) passed_rows) refl refl (λ name. refl) b w below in
    let away : of_each (λ (p : Locator). apart p b) flattened_away_rows ≡ true = authored_passes (λ q. of_each (λ p. apart p q) flattened_away_rows) refl refl (λ name. refl) b w below in
    let op : (name : Name) → apart (op_at name) b ≡ true = λ name. authored_passes (λ q. apart (op_at name) q) refl refl (ops_apart name) b w below in
    let both : (not (is_prefix a b) || same a b) ≡ true = authored_passes (λ p. apart p b) passed away op a v above in
    names_same a b (subst (λ t. (not t || same a b) ≡ true) prefix both)
