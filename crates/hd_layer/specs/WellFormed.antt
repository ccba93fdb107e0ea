-- Layers, prims and properties that may be handed on.
use Rattle.std.specs.Prelude.{◌-◌, ◌%◌, ℤ, unsigned_abs, List, [], ◌∷◌, length, map, take, Bool, true, false, ◌&&◌, ◌||◌, not, ◌==◌, nat_le, nat_lt, Option, Some, None}
use Rattle.std.specs.List.{list_all, list_any}
use Rattle.std.specs.Str.{bytes_eq}
use Rattle.std.specs.Ordering.{is_eq, is_lt}
use Rattle.hd_num.specs.declared.vector.Vec3.{Vec3}
use Rattle.hd_num.specs.Matrices.{Rows}
use Rattle.hd_path.specs.Names.{is_identifier, Name}
use Rattle.hd_layer.specs.declared.limits.Which.TheVariants as limit
use Rattle.hd_tokens.specs.declared.properties.AttributeKind.{AttributeKind}
use Rattle.hd_tokens.specs.declared.properties.AttributeKind.TheVariants as role
use Rattle.hd_layer.specs.declared.spec.RawValue.{RawValue}
use Rattle.hd_layer.specs.declared.spec.RawValue.TheVariants.{Numbers, Triples, Words, Paths, Matrix}
use Rattle.hd_layer.specs.declared.spec.Property.{Property}
use Rattle.hd_layer.specs.declared.spec.PrimSpec.{PrimSpec}
use Rattle.hd_layer.specs.declared.spec.LayerSpec.{LayerSpec}
use Rattle.hd_layer.specs.Limits.{limit_of}
use Rattle.hd_tokens.specs.Names.{is_any}
use Rattle.hd_tokens.specs.Properties.{attribute_kind_of, is_target_name, is_op_entry, visibilities, purposes}
use Rattle.hd_path.specs.Paths.{path_cmp, Path}

-- within the limit of a literal
abbrev pub is_small : ℤ → Bool
is_small n = nat_le (unsigned_abs n) (limit_of limit.Literal)

-- whole quarter turns within the limit, in degrees
abbrev pub is_quarters : ℤ → Bool
is_quarters n = is_small n && (unsigned_abs n % 90 == 0)

-- each component passes the test
abbrev pub each_of : (ℤ → Bool) → Vec3 → Bool
each_of test v = test v.x && test v.y && test v.z

-- a list within the limit, of items that pass the test
abbrev pub is_list : {A : Type 0} → (A → Bool) → List A → Bool
is_list test items = nat_le (length items) (limit_of limit.Elements) && list_all test items

-- one item, which passes the test
abbrev pub is_single : {A : Type 0} → (A → Bool) → List A → Bool
is_single test items = (length items == 1) && list_all test items

-- entries of an op order, of which the first may be the reset
abbrev pub are_op_entries : List Name → Bool
are_op_entries [] = true
are_op_entries (entry ∷ entries) = nat_le (length (entry ∷ entries)) (limit_of limit.Elements) && is_op_entry true entry && list_all (is_op_entry false) entries

abbrev pub are_triples : (List Vec3 → Bool) → RawValue → Bool
are_triples test (Triples triples) = test triples
are_triples test (Numbers numbers) = false
are_triples test (Words words) = false
are_triples test (Paths paths) = false
are_triples test (Matrix rows) = false

abbrev pub are_numbers : (List ℤ → Bool) → RawValue → Bool
are_numbers test (Numbers numbers) = test numbers
are_numbers test (Triples triples) = false
are_numbers test (Words words) = false
are_numbers test (Paths paths) = false
are_numbers test (Matrix rows) = false

abbrev pub are_words : (List Name → Bool) → RawValue → Bool
are_words test (Words words) = test words
are_words test (Numbers numbers) = false
are_words test (Triples triples) = false
are_words test (Paths paths) = false
are_words test (Matrix rows) = false

abbrev pub are_paths : (List Path → Bool) → RawValue → Bool
are_paths test (Paths paths) = test paths
are_paths test (Numbers numbers) = false
are_paths test (Triples triples) = false
are_paths test (Words words) = false
are_paths test (Matrix rows) = false

abbrev pub are_rows : (Rows → Bool) → RawValue → Bool
are_rows test (Matrix rows) = test rows
are_rows test (Numbers numbers) = false
are_rows test (Triples triples) = false
are_rows test (Words words) = false
are_rows test (Paths paths) = false

-- the numbers of each row of a matrix
abbrev pub are_small_rows : Rows → Bool
are_small_rows rows = list_all (list_all is_small) rows

-- the value has the form of its role
abbrev pub has_form : AttributeKind → RawValue → Bool
has_form role.Points value = are_triples (is_list (each_of is_small)) value
has_form role.Numbers value = are_numbers (is_list is_small) value
has_form role.Colors value = are_triples (is_list (each_of is_small)) value
has_form role.ByteColors value = are_triples (is_list (each_of is_small)) value
has_form role.OpOrder value = are_words are_op_entries value
has_form role.Visibility value = are_words (is_single (is_any visibilities)) value
has_form role.Purpose value = are_words (is_single (is_any purposes)) value
has_form role.Vector value = are_triples (is_single (each_of is_small)) value
has_form role.Angle value = are_numbers (is_single is_quarters) value
has_form role.Angles value = are_triples (is_single (each_of is_quarters)) value
has_form role.Transform value = are_rows are_small_rows value
has_form role.ByteColor value = are_triples (is_single (each_of is_small)) value

-- not the root, which is the path of no prim
abbrev pub is_below_root : Path → Bool
is_below_root path = nat_lt 0 (length path)

-- the value of a property of this role, or of a relationship
abbrev pub has_value : Option AttributeKind → Name → RawValue → Bool
has_value None name value = is_target_name name && are_paths (is_list is_below_root) value
has_value (Some role) name value = has_form role value

-- a used property whose value has its form
abbrev pub is_property : Property → Bool
is_property p = has_value (attribute_kind_of p.name) p.name p.value

-- no name is twice
abbrev pub are_distinct : List Name → Bool
are_distinct [] = true
are_distinct (name ∷ names) = not (list_any (bytes_eq name) names) && are_distinct names

-- a prim below the root, of used properties, each of which is once
abbrev pub is_prim_spec : PrimSpec → Bool
is_prim_spec p = is_below_root p.path && list_all is_property p.properties && are_distinct (map (λ q. q.name) p.properties)

-- each path comes before the next
abbrev pub ascend : List Path → Bool
ascend [] = true
ascend (path ∷ paths) = list_all (λ next. is_lt (path_cmp path next)) paths && ascend paths

-- a path of one name, or one whose parent is among the paths
abbrev pub has_parent : List Path → Path → Bool
has_parent paths path = (length path == 1) || list_any (λ other. is_eq (path_cmp (take (length path - 1) path) other)) paths

-- prims in the order of their paths, each below another or at the root, within the limit
abbrev pub is_layer : LayerSpec → Bool
is_layer l =
    let paths = map (λ p. p.path) l.prims in
    nat_le (length paths) (limit_of limit.Prims) && list_all is_prim_spec l.prims && ascend paths && list_all (has_parent paths) paths

-- an identifier within the limit
abbrev pub is_prim_name : Name → Bool
is_prim_name name = is_identifier name && nat_le (length name) (limit_of limit.Name)

-- the type of a prim: none, or an identifier within the limit
abbrev pub is_kind : Name → Bool
is_kind kind = bytes_eq kind [] || is_prim_name kind

-- each prim's type is none, or an identifier within the limit
abbrev pub has_kinds : LayerSpec → Bool
has_kinds l = list_all (λ p. is_kind p.kind) l.prims
