-- A property that is kept is well formed.
use Rattle.std.proofs.Common.{◌≡◌, ℕ, Bool, true, false, ◌&&◌, List, Option, Some, None, refl, sym, subst}
use Rattle.std.proofs.lemmas.Bool.{and_from}
use Rattle.hd_path.specs.Paths.{Path}
use Rattle.hd_tokens.specs.declared.properties.AttributeKind.{AttributeKind}
use Rattle.hd_layer.specs.declared.spec.RawValue.{RawValue}
use Rattle.hd_layer.specs.declared.spec.RawValue.TheVariants.{Paths}
use Rattle.hd_tokens.specs.Properties.{is_used, is_target_name}
use Rattle.hd_layer.specs.WellFormed.{has_value, has_form, is_list, is_below_root}

-- a property of an attribute's role
pub attribute_is : (role : Option AttributeKind) (r : AttributeKind) (name : List ℕ) (v : RawValue) → role ≡ Some r → has_form r v ≡ true → has_value role name v ≡ true
attribute_is role r name v same form = subst (λ o. has_value o name v ≡ true) (sym same) form

not_used : (role : Option AttributeKind) → is_used role ≡ false → role ≡ None
not_used None h = refl
not_used (Some r) h = absurd (cc)

-- a property of a relationship
pub relation_is : (role : Option AttributeKind) (name : List ℕ) (ps : List Path) → is_used role ≡ false → is_target_name name ≡ true → is_list is_below_root ps ≡ true → has_value role name (Paths ps) ≡ true
relation_is role name ps unused target form = subst (λ o. has_value o name (Paths ps) ≡ true) (sym (not_used role unused)) (and_from (is_target_name name) (is_list is_below_root ps) target form)
