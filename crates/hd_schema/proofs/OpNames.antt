-- The kinds of ops in names.
use Rattle.std.proofs.Common.{◌≡◌, ℕ, true, false, ◌&&◌, nat_le, cond, List, [], ◌∷◌, length, drop, Some, None, refl, ap, sym, ◌∙◌}
use Rattle.std.specs.Cmp.Lexicographic.{bytes_decides}
use Rattle.std.specs.List.{find, list_all}
use Rattle.std.specs.Str.{bytes_eq}
use Rattle.hd_num.specs.declared.axis.Axis.TheVariants.{X, Y, Z}
use Rattle.hd_num.specs.declared.op.Op.{Op}
use Rattle.hd_num.specs.declared.op.Op.TheVariants.{Translate, Scale, Transform}
use Rattle.hd_path.specs.Names.{Name}
use Rattle.hd_path.proofs.NamePrefixes.{and_true}
use Rattle.hd_tokens.specs.declared.properties.AttributeKind.{AttributeKind}
use Rattle.hd_layer.specs.declared.spec.RawValue.{RawValue}
use Rattle.hd_tokens.specs.Names.{is_joined}
use Rattle.hd_tokens.specs.Properties.{OpKind, op_kinds, begins_op, first_part, op_value_kind, op_kind_of, is_op_entry}
use Rattle.hd_layer.specs.WellFormed.{are_op_entries}
use Rattle.hd_value.specs.declared.value.Value.TheVariants as value
use Rattle.hd_value.specs.Schema as schema
use Rattle.hd_value.specs.Schema.{is_order}
use Rattle.hd_schema.specs.OpValues.{number, triple, matrix, turn, turns, OpValue, op_values, op_of_kind, kind_of}
use Rattle.hd_schema.proofs.Lookups.{Each, found_passes, found_among, mapped, chained}

-- entries of an order may be in one
pub order_conforms : (ws : List Name) → are_op_entries ws ≡ true → is_order (value.Tokens ws) ≡ true
order_conforms [] e = refl
order_conforms (w ∷ ws) e =
    let both = and_true (nat_le (length (w ∷ ws)) 65536 && is_op_entry true w) (list_all (is_op_entry false) ws) e in
    let first = (and_true (nat_le (length (w ∷ ws)) 65536) (is_op_entry true w) both.0).1 in
    ap (λ b. b && list_all (is_op_entry false) ws) first ∙ both.1

-- each op is of the kind that it is made by
abbrev IsOfKind : OpValue → Type 0
IsOfKind k = (v : RawValue) (op : Op) → k.op v ≡ Some op → schema.kind_of op ≡ k.kind

of_kinds : Each IsOfKind op_values
of_kinds = (
  λ v op e. mapped Translate (triple v) op e (λ x _ is. ap schema.kind_of (sym is)),
  (
    λ v op e. mapped Scale (triple v) op e (λ x _ is. ap schema.kind_of (sym is)),
    (
      λ v op e. mapped (turn X) (number v) op e (λ x _ is. ap schema.kind_of (sym is)),
      (
        λ v op e. mapped (turn Y) (number v) op e (λ x _ is. ap schema.kind_of (sym is)),
        (
          λ v op e. mapped (turn Z) (number v) op e (λ x _ is. ap schema.kind_of (sym is)),
          (
            λ v op e. mapped turns (triple v) op e (λ x _ is. ap schema.kind_of (sym is)),
            (λ v op e. mapped Transform (matrix v) op e (λ x _ is. ap schema.kind_of (sym is)), tt),
          ),
        ),
      ),
    ),
  ),
)

pub op_conforms : (name : List ℕ) (v : RawValue) (op : Op) → op_of_kind (kind_of name) v ≡ Some op → bytes_eq (kind_of name) (schema.kind_of op) ≡ true
op_conforms name v op e =
    chained (λ (k : OpValue). k.op v) (find (λ (k : OpValue). bytes_eq (kind_of name) k.kind) op_values) op e (λ k found made.
    let is : kind_of name ≡ k.kind = (bytes_decides (kind_of name) k.kind).0 (found_passes (λ (x : OpValue). bytes_eq (kind_of name) x.kind) op_values k found) in
    let kind : schema.kind_of op ≡ k.kind = found_among IsOfKind (λ (x : OpValue). bytes_eq (kind_of name) x.kind) op_values k of_kinds found v op made in
    (bytes_decides (kind_of name) (schema.kind_of op)).1 (is ∙ sym kind))

-- a fact of the kinds of ops holds of the kind in the name of an op, and of its kind
pub kind_among : (Fact : OpKind → Type 0) → Each Fact op_kinds → {P : Type 0} (name : List ℕ) (kind : AttributeKind) → op_kind_of name ≡ Some kind → ((k : OpKind) → Fact k → kind_of name ≡ k.name → k.kind ≡ kind → P) → P
unfolding op_kind_of
kind_among Fact each {P} name kind e use_it =
    elim (begins_op name && is_joined name) as (λ b. cond b (op_value_kind (first_part (drop 8 name))) None ≡ Some kind → P) [
      | true ↦ λ there. mapped (λ (k : OpKind). k.kind) (find (λ (k : OpKind). bytes_eq (first_part (drop 8 name)) k.name) op_kinds) kind there (λ k found is. use_it k (found_among Fact (λ (x : OpKind). bytes_eq (first_part (drop 8 name)) x.name) op_kinds k each found) ((bytes_decides (first_part (drop 8 name)) k.name).0 (found_passes (λ (x : OpKind). bytes_eq (first_part (drop 8 name)) x.name) op_kinds k found)) is)
      | false ↦ λ no. absurd (nothing no)
    ] e
  where
    nothing : None ≡ Some kind → ⊥
    nothing e = cc
