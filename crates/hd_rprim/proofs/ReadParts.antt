-- Maps that agree under the locator of a group have the same parts of that group.
use Rattle.std.proofs.Common.{◌≡◌, ℕ, Bool, true, false, cond, [], ◌∷◌, Some, None, unwrap_or, length, refl, ap}
use Rattle.std.specs.Option.{option_and_then}
use Rattle.hd_tokens.specs.Locators.{points_at, counts_at, indices_at, color_at, matrix_at, visibility_at, purpose_at, binding_at, instanced_by_at, positions_at, proto_indices_at, prototypes_at, material_color_at}
use Rattle.hd_value.specs.declared.groups.Group.{Group}
use Rattle.hd_value.specs.declared.groups.Group.TheVariants as group
use Rattle.hd_value.specs.Maps.{Map}
use Rattle.hd_dirty.specs.Bits.{has}
use Rattle.hd_flattening.specs.Flat.{first_of, or_if_empty}
use Rattle.hd_flattening.specs.Values.{token_of, paths_of, colors_of, is_set}
use Rattle.hd_rprim.specs.declared.buffer.Buffer.TheVariants as buffer
use Rattle.hd_rprim.specs.declared.row.Row.TheVariants.{Rprim, Camera, Material, Instancer}
use Rattle.hd_rprim.specs.Fans.{triangles}
use Rattle.hd_rprim.specs.Readings.{white, vecs_of, ints_of, color_of, matrix_of, purpose_named, matrix_in, visible_in, purpose_in, binding_in, instancers_in, face_count_in, points_in, triangles_in, colors_in, material_color_in, positions_in, proto_indices_in, targets_in}
use Rattle.hd_rprim.specs.Staged.{renewed}
use Rattle.hd_rprim.specs.Laws.{AgreeUnder, SetBitsReadTheirGroups, SetBitsWantTheirGroups}

-- what is read is the same of maps that agree under the locator of the group
abbrev pub SameRead : Group → {A : Type 0} → (Map → A) → Type 0
SameRead group read = (one other : Map) → AgreeUnder group one other → read one ≡ read other

pub matrix_read : SameRead group.Transform matrix_in
matrix_read one other agree = ap matrix_of (agree matrix_at refl)

pub visible_read : SameRead group.Visibility visible_in
visible_read one other agree = ap is_set (agree visibility_at refl)

pub purpose_read : SameRead group.Purpose purpose_in
purpose_read one other agree = ap (λ v. purpose_named (token_of v)) (agree purpose_at refl)

pub binding_read : SameRead group.Binding binding_in
binding_read one other agree = ap (λ v. option_and_then first_of (paths_of v)) (agree binding_at refl)

pub instancers_read : SameRead group.Instancer instancers_in
instancers_read one other agree = ap (λ v. unwrap_or (paths_of v) []) (agree instanced_by_at refl)

pub face_count_read : SameRead group.Topology face_count_in
face_count_read one other agree = ap (λ v. length (ints_of v)) (agree counts_at refl)

points_read : SameRead group.Points points_in
points_read one other agree = ap vecs_of (agree points_at refl)

triangles_read : SameRead group.Topology triangles_in
triangles_read one other agree = λ i. triangles (ints_of (agree counts_at refl i)) (ints_of (agree indices_at refl i))

colors_read : SameRead group.Color colors_in
colors_read one other agree = ap (λ v. or_if_empty (colors_of v) (white ∷ [])) (agree color_at refl)

pub material_color_read : SameRead group.MaterialColor material_color_in
material_color_read one other agree = ap color_of (agree material_color_at refl)

pub positions_read : SameRead group.Instances positions_in
positions_read one other agree = ap vecs_of (agree positions_at refl)

pub proto_indices_read : SameRead group.Instances proto_indices_in
proto_indices_read one other agree = ap ints_of (agree proto_indices_at refl)

pub targets_read : SameRead group.Instances targets_in
targets_read one other agree = ap (λ v. unwrap_or (paths_of v) []) (agree prototypes_at refl)

-- two maps agree under the groups of the bits
abbrev AgreeAt : ℕ → Map → Map → Type 0
AgreeAt bits one other = (group : Group) → has bits group ≡ true → AgreeUnder group one other

-- the bits read the same part of both
same_part : {A : Type 0} (bits : ℕ) (one other : Map) → AgreeAt bits one other → (group : Group) (read : Map → A) → SameRead group read → (old : A)
    → renewed bits group (read one) old ≡ renewed bits group (read other) old
same_part {A} bits one other agree group read same old = by (has bits group) refl
  where
    by : (b : Bool) → has bits group ≡ b → cond b (read one) old ≡ cond b (read other) old
    by true set = same one other (agree group set)
    by false unset = refl

pub set_bits_read_their_groups : SetBitsReadTheirGroups
set_bits_read_their_groups bits one other (Rprim row) agree = λ i.
    Rprim
    (record {
      shape = row.shape;
      matrix = same_part bits one other agree group.Transform matrix_in matrix_read row.matrix i;
      visible = same_part bits one other agree group.Visibility visible_in visible_read row.visible i;
      purpose = same_part bits one other agree group.Purpose purpose_in purpose_read row.purpose i;
      binding = same_part bits one other agree group.Binding binding_in binding_read row.binding i;
      instanced_by = same_part bits one other agree group.Instancer instancers_in instancers_read row.instanced_by i;
      faces = same_part bits one other agree group.Topology face_count_in face_count_read row.faces i;
      points = row.points;
      triangles = row.triangles;
      colors = row.colors;
    })
set_bits_read_their_groups bits one other (Camera matrix) agree = ap Camera (same_part bits one other agree group.Transform matrix_in matrix_read matrix)
set_bits_read_their_groups bits one other (Material color) agree =
    ap Material (same_part bits one other agree group.MaterialColor material_color_in material_color_read color)
set_bits_read_their_groups bits one other (Instancer row) agree = λ i.
    Instancer
    (record {
      matrix = same_part bits one other agree group.Transform matrix_in matrix_read row.matrix i;
      visible = same_part bits one other agree group.Visibility visible_in visible_read row.visible i;
      instanced_by = same_part bits one other agree group.Instancer instancers_in instancers_read row.instanced_by i;
      positions = same_part bits one other agree group.Instances positions_in positions_read row.positions i;
      proto_indices = same_part bits one other agree group.Instances proto_indices_in proto_indices_read row.proto_indices i;
      targets = same_part bits one other agree group.Instances targets_in targets_read row.targets i;
    })

points_buffer_read : SameRead group.Points (λ values. Some (buffer.Points (points_in values)))
points_buffer_read one other agree = ap (λ points. Some (buffer.Points points)) (points_read one other agree)

triangles_buffer_read : SameRead group.Topology (λ values. Some (buffer.Triangles (triangles_in values)))
triangles_buffer_read one other agree = ap (λ triangles. Some (buffer.Triangles triangles)) (triangles_read one other agree)

colors_buffer_read : SameRead group.Color (λ values. Some (buffer.Colors (colors_in values)))
colors_buffer_read one other agree = ap (λ colors. Some (buffer.Colors colors)) (colors_read one other agree)

pub set_bits_want_their_groups : SetBitsWantTheirGroups
set_bits_want_their_groups bits one other (Rprim row) agree = λ i.
    same_part bits one other agree group.Points (λ values. Some (buffer.Points (points_in values))) points_buffer_read None i
    ∷ same_part bits one other agree group.Topology (λ values. Some (buffer.Triangles (triangles_in values))) triangles_buffer_read None i
    ∷ same_part bits one other agree group.Color (λ values. Some (buffer.Colors (colors_in values))) colors_buffer_read None i
    ∷ []
set_bits_want_their_groups bits one other (Camera matrix) agree = refl
set_bits_want_their_groups bits one other (Material color) agree = refl
set_bits_want_their_groups bits one other (Instancer row) agree = refl
