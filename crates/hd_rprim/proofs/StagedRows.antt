-- Two stagings in a row.
use Rattle.std.proofs.Common.{◌≡◌, ℕ, Bool, true, false, cond, ◌||◌, refl, ap, sym, ◌∙◌}
use Rattle.std.specs.Int.RustNames.{bit_or}
use Rattle.hd_value.specs.declared.groups.Group.{Group}
use Rattle.hd_value.specs.declared.groups.Group.TheVariants as group
use Rattle.hd_dirty.specs.Bits.{has}
use Rattle.hd_dirty.proofs.Reaching.{union_has_both}
use Rattle.hd_rprim.specs.declared.row.Row.TheVariants.{Rprim, Camera, Material, Instancer}
use Rattle.hd_rprim.specs.Readings.{matrix_in, visible_in, purpose_in, binding_in, instancers_in, face_count_in, material_color_in, positions_in, proto_indices_in, targets_in}
use Rattle.hd_rprim.specs.Staged.{renewed}
use Rattle.hd_rprim.specs.Laws.{BitsAddUp}

-- what is read anew by some bits and then by others is read anew by both
renewed_twice : {A : Type 0} (bits others : ℕ) (group : Group) (new old : A)
    → renewed others group new (renewed bits group new old) ≡ renewed (bit_or bits others) group new old
renewed_twice {A} bits others group new old =
    either (has bits group) (has others group) ∙ ap (λ b. cond b new old) (sym (union_has_both bits others group))
  where
    either : (b c : Bool) → cond c new (cond b new old) ≡ cond (b || c) new old
    either true true = refl
    either true false = refl
    either false true = refl
    either false false = refl

pub bits_add_up : BitsAddUp
bits_add_up bits others values (Rprim row) = λ i.
    Rprim
    (record {
      shape = row.shape;
      matrix = renewed_twice bits others group.Transform (matrix_in values) row.matrix i;
      visible = renewed_twice bits others group.Visibility (visible_in values) row.visible i;
      purpose = renewed_twice bits others group.Purpose (purpose_in values) row.purpose i;
      binding = renewed_twice bits others group.Binding (binding_in values) row.binding i;
      instanced_by = renewed_twice bits others group.Instancer (instancers_in values) row.instanced_by i;
      faces = renewed_twice bits others group.Topology (face_count_in values) row.faces i;
      points = row.points;
      triangles = row.triangles;
      colors = row.colors;
    })
bits_add_up bits others values (Camera matrix) = ap Camera (renewed_twice bits others group.Transform (matrix_in values) matrix)
bits_add_up bits others values (Material color) = ap Material (renewed_twice bits others group.MaterialColor (material_color_in values) color)
bits_add_up bits others values (Instancer row) = λ i.
    Instancer
    (record {
      matrix = renewed_twice bits others group.Transform (matrix_in values) row.matrix i;
      visible = renewed_twice bits others group.Visibility (visible_in values) row.visible i;
      instanced_by = renewed_twice bits others group.Instancer (instancers_in values) row.instanced_by i;
      positions = renewed_twice bits others group.Instances (positions_in values) row.positions i;
      proto_indices = renewed_twice bits others group.Instances (proto_indices_in values) row.proto_indices i;
      targets = renewed_twice bits others group.Instances (targets_in values) row.targets i;
    })
