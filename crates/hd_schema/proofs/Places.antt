-- Where the values of properties are.
use Rattle.std.proofs.Common.{◌≡◌, ℕ, true, false, cond, List, [], ◌∷◌, ◌++◌, Option, Some, None, drop, codes, refl, ap, sym, ◌∙◌}
use Rattle.std.specs.Option.{option_map, is_some}
use Rattle.std.specs.Str.Pattern.{FindsTextPrefix}
use Rattle.std.proofs.lemmas.Bool.Decides.{Decides-eqb}
use Rattle.std.proofs.lemmas.Slice.Eq.{starts_is}
use Rattle.std.proofs.lemmas.Str.Pattern.{starts_text}
use Rattle.hd_path.proofs.Logic.{true_is_not, false_is_not}
use Rattle.hd_tokens.specs.declared.properties.AttributeKind.{AttributeKind}
use Rattle.hd_tokens.specs.declared.properties.Content.TheVariants.{Attribute}
use Rattle.hd_tokens.specs.Locators.{Locator, op_at}
use Rattle.hd_tokens.specs.Properties.{property, begins_op, op_kind_of, op_property, named_property, property_of, content_of, locator_of}
use Rattle.hd_value.specs.LocatorSets.{with_locator}

pub inserted_first : (at : Locator) → with_locator [] at ≡ at ∷ []
inserted_first at = refl

-- a name after `xformOp:` begins as that of an op
pub begins_after : (name : List ℕ) → name ≡ codes "xformOp:" ++ drop 8 name → begins_op name ≡ true
begins_after name is = (starts_is Decides-eqb name (codes "xformOp:") (begins_op name) refl).1 (drop 8 name) is

begins_other : (name : List ℕ) → FindsTextPrefix (codes "xformOp:") name None → begins_op name ≡ false
begins_other name none = sym (starts_text false (codes "xformOp:") name none)

-- where an op's value is
op_place : List ℕ → Locator
op_place name = op_at (drop 8 name)

row_at : (name : List ℕ) → begins_op name ≡ true → property_of name ≡ op_property name
unfolding property_of
row_at name begins = ap (λ b. cond b (op_property name) (named_property name)) begins

pub op_located : (name : List ℕ) → name ≡ codes "xformOp:" ++ drop 8 name → is_some (content_of name) ≡ true → locator_of name ≡ Some (op_at (drop 8 name))
unfolding content_of locator_of
op_located name is used =
    ap (option_map (λ r. r.locator)) same
    ∙ elim (op_kind_of name) as (λ o. is_some (option_map (λ r. r.content) (option_map (λ (kind : AttributeKind). property name (Attribute kind) (op_at (drop 8 name))) o)) ≡ true → option_map (λ r. r.locator) (option_map (λ (kind : AttributeKind). property name (Attribute kind) (op_at (drop 8 name))) o) ≡ Some (op_at (drop 8 name))) [
      | Some kind ↦ λ _. refl
      | None ↦ λ no. false_is_not no
    ] (sym (ap (λ o. is_some (option_map (λ r. r.content) o)) same) ∙ used)
  where
    same : property_of name ≡ op_property name
    same = row_at name (begins_after name is)

pub op_unused : (name : List ℕ) → is_some (content_of name) ≡ false → locator_of name ≡ None
unfolding content_of locator_of
op_unused name unused =
    elim (property_of name) as (λ o. is_some (option_map (λ r. r.content) o) ≡ false → ◌≡◌ {A = Option Locator} (option_map (λ r. r.locator) o) None) [
      | Some r ↦ λ no. true_is_not no
      | None ↦ λ _. refl
    ] unused

pub plain_located : (name : List ℕ) → FindsTextPrefix (codes "xformOp:") name None → option_map (λ r. r.locator) (named_property name) ≡ locator_of name
unfolding locator_of property_of
plain_located name none = ap (λ b. option_map (λ r. r.locator) (cond b (op_property name) (named_property name))) (sym (begins_other name none))
