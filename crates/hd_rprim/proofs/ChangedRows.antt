-- A row in which the parts that changed are read anew.
use Rattle.std.proofs.Common.{◌≡◌, ℕ, min, max, Bool, true, false, cond, ◌||◌, Some, None, refl, ap, sym, subst, ◌∙◌, arith}
use Rattle.std.proofs.lemmas.Bool.{false≢true}
use Rattle.std.proofs.lemmas.Bool.Decides.{Decides-eqb}
use Rattle.std.proofs.lemmas.Nat.Bits.{same_from_bits, bit_at_or, bit_at_and}
use Rattle.std.proofs.lemmas.Option.{same_Some}
use Rattle.std.proofs.Math.Bool.{or-true}
use Rattle.std.specs.Int.{bit_at}
use Rattle.std.specs.Int.RustNames.{bit_and, bit_or}
use Rattle.hd_tokens.specs.Kinds.{mesh_kind, points_kind, camera_kind, material_kind, point_instancer_kind}
use Rattle.hd_value.specs.declared.groups.Group.{Group}
use Rattle.hd_value.specs.declared.groups.Group.TheVariants as group
use Rattle.hd_value.specs.Maps.{Map}
use Rattle.hd_dirty.specs.Bits.{contains, has}
use Rattle.hd_dirty.specs.Kinds.{all_of}
use Rattle.hd_dirty.proofs.Reaching.{union_has_both}
use Rattle.hd_rprim.specs.declared.row.Row.{Row}
use Rattle.hd_rprim.specs.declared.row.Row.TheVariants.{Rprim, Camera, Material, Instancer}
use Rattle.hd_rprim.specs.declared.row.Shape.{Shape}
use Rattle.hd_rprim.specs.declared.row.Shape.TheVariants.{Mesh, Points}
use Rattle.hd_rprim.specs.PrimRows.{row_read, rprim_row, instancer_row, faces_read}
use Rattle.hd_rprim.specs.Readings.{matrix_in, visible_in, purpose_in, binding_in, instancers_in, face_count_in, material_color_in, positions_in, proto_indices_in, targets_in}
use Rattle.hd_rprim.specs.Staged.{renewed, staged, staged_rprim, staged_instancer}
use Rattle.hd_rprim.specs.Laws.{AgreeUnder, ChangedBitsReadRow}
use Rattle.hd_rprim.proofs.KindRows.{each_kind}
use Rattle.hd_rprim.proofs.ReadParts.{SameRead, matrix_read, visible_read, purpose_read, binding_read, instancers_read, face_count_read, material_color_read, positions_read, proto_indices_read, targets_read}

-- a bit of some bits among others is one of those
bit_within : (all bits : ℕ) (group : Group) → contains all bits ≡ true → has bits group ≡ true → has all group ≡ true
bit_within all bits group within set =
    let both : bit_and all bits ≡ bits = (Decides-eqb (bit_and all bits) bits).0 within in
    let same : bit_or all bits ≡ all =
    same_from_bits
    (bit_or all bits)
    all
    (λ i.
    let least : min (bit_at all i) (bit_at bits i) ≡ bit_at bits i = sym (bit_at_and all bits i) ∙ ap (λ n. bit_at n i) both in
    bit_at_or all bits i ∙ greatest (bit_at all i) (bit_at bits i) least)
    in
    ap (λ n. has n group) (sym same) ∙ union_has_both all bits group ∙ ap (λ b. has all group || b) set ∙ or-true (has all group)
  where
    greatest : (m n : ℕ) → min m n ≡ n → max m n ≡ m
    greatest m n least = omega (arith, least)

-- what a kind has no bit for is not read
renewed_never : {A : Type 0} (all bits : ℕ) (group : Group) (new old : A) → contains all bits ≡ true → has all group ≡ false → renewed bits group new old ≡ old
renewed_never {A} all bits group new old within none = by (has bits group) refl
  where
    by : (b : Bool) → has bits group ≡ b → cond b new old ≡ old
    by true set = absurd (false≢true (sym none ∙ bit_within all bits group within set))
    by false unset = refl

-- the maps agree under the groups of all bits that are not among the bits
abbrev AgreeElsewhere : (all bits : ℕ) (old new : Map) → Type 0
AgreeElsewhere all bits old new = (group : Group) → has all group ≡ true → has bits group ≡ false → AgreeUnder group old new

-- a part of the old values, renewed by the bits, is that of the new ones
staged_part : {A : Type 0} (all bits : ℕ) (old new : Map) → AgreeElsewhere all bits old new → (group : Group) (read : Map → A) → SameRead group read → has all group ≡ true
    → renewed bits group (read new) (read old) ≡ read new
staged_part {A} all bits old new agree group read same in_all = by (has bits group) refl
  where
    by : (b : Bool) → has bits group ≡ b → cond b (read new) (read old) ≡ read new
    by true set = refl
    by false unset = same old new (agree group in_all unset)

rprim_staged : (shape : Shape) (bits : ℕ) (old new : Map) → AgreeElsewhere (all_of points_kind) bits old new
    → renewed bits group.Topology (face_count_in new) (faces_read shape old) ≡ faces_read shape new
    → staged_rprim bits new (rprim_row shape old) ≡ rprim_row shape new
rprim_staged shape bits old new agree faces = λ i. record {
  shape = shape;
  matrix = staged_part (all_of points_kind) bits old new agree group.Transform matrix_in matrix_read refl i;
  visible = staged_part (all_of points_kind) bits old new agree group.Visibility visible_in visible_read refl i;
  purpose = staged_part (all_of points_kind) bits old new agree group.Purpose purpose_in purpose_read refl i;
  binding = staged_part (all_of points_kind) bits old new agree group.Binding binding_in binding_read refl i;
  instanced_by = staged_part (all_of points_kind) bits old new agree group.Instancer instancers_in instancers_read refl i;
  faces = faces i;
  points = None;
  triangles = None;
  colors = None;
}

mesh_staged : (bits : ℕ) (old new : Map) → AgreeElsewhere (all_of mesh_kind) bits old new → staged_rprim bits new (rprim_row Mesh old) ≡ rprim_row Mesh new
mesh_staged bits old new agree =
    rprim_staged
    Mesh
    bits
    old
    new
    (λ group set unset. agree group (bit_within (all_of mesh_kind) (all_of points_kind) group refl set) unset)
    (staged_part (all_of mesh_kind) bits old new agree group.Topology face_count_in face_count_read refl)

points_staged : (bits : ℕ) (old new : Map) → contains (all_of points_kind) bits ≡ true → AgreeElsewhere (all_of points_kind) bits old new
    → staged_rprim bits new (rprim_row Points old) ≡ rprim_row Points new
points_staged bits old new within agree =
    rprim_staged Points bits old new agree (renewed_never (all_of points_kind) bits group.Topology (face_count_in new) 0 within refl)

instancer_staged : (bits : ℕ) (old new : Map) → AgreeElsewhere (all_of point_instancer_kind) bits old new
    → staged_instancer bits new (instancer_row old) ≡ instancer_row new
instancer_staged bits old new agree = λ i. record {
  matrix = staged_part (all_of point_instancer_kind) bits old new agree group.Transform matrix_in matrix_read refl i;
  visible = staged_part (all_of point_instancer_kind) bits old new agree group.Visibility visible_in visible_read refl i;
  instanced_by = staged_part (all_of point_instancer_kind) bits old new agree group.Instancer instancers_in instancers_read refl i;
  positions = staged_part (all_of point_instancer_kind) bits old new agree group.Instances positions_in positions_read refl i;
  proto_indices = staged_part (all_of point_instancer_kind) bits old new agree group.Instances proto_indices_in proto_indices_read refl i;
  targets = staged_part (all_of point_instancer_kind) bits old new agree group.Instances targets_in targets_read refl i;
}

-- the row that was read is the one of the kind
of_row : (bits : ℕ) (new : Map) (was row read : Row) → staged bits new was ≡ read → Some was ≡ Some row → Some (staged bits new row) ≡ Some read
of_row bits new was row read same is = subst (λ r. Some (staged bits new r) ≡ Some read) (same_Some was row is) (ap (λ r. Some r) same)

pub changed_bits_read_row : ChangedBitsReadRow
changed_bits_read_row kind bits old new row =
    each_kind
    (λ kind. contains (all_of kind) bits ≡ true → AgreeElsewhere (all_of kind) bits old new → row_read kind old ≡ Some row → Some (staged bits new row) ≡ row_read kind new)
    (λ _ agree. of_row bits new (Rprim (rprim_row Mesh old)) row (Rprim (rprim_row Mesh new)) (ap Rprim (mesh_staged bits old new agree)))
    (λ within agree. of_row bits new (Rprim (rprim_row Points old)) row (Rprim (rprim_row Points new)) (ap Rprim (points_staged bits old new within agree)))
    (λ _ agree.
    of_row bits new (Camera (matrix_in old)) row (Camera (matrix_in new)) (ap Camera (staged_part (all_of camera_kind) bits old new agree group.Transform matrix_in matrix_read refl)))
    (λ _ agree.
    of_row
    bits
    new
    (Material (material_color_in old))
    row
    (Material (material_color_in new))
    (ap Material (staged_part (all_of material_kind) bits old new agree group.MaterialColor material_color_in material_color_read refl)))
    (λ _ agree. of_row bits new (Instancer (instancer_row old)) row (Instancer (instancer_row new)) (ap Instancer (instancer_staged bits old new agree)))
    (λ kind none _ _ is. let other : None ≡ Some row = sym (none.no_row old) ∙ is in absurd (cc))
    kind
