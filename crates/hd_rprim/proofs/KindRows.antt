-- The rows of prims by their kinds.
use Rattle.std.proofs.Common.{◌≡◌, ◌↔◌, true, false, Some, None, refl, sym, subst, ◌∙◌}
use Rattle.std.proofs.lemmas.Option.{same_Some}
use Rattle.hd_path.specs.Names.{Name, is_same}
use Rattle.hd_path.specs.inner.Comparing.{bytes_same}
use Rattle.hd_tokens.specs.Kinds.{mesh_kind, points_kind, camera_kind, material_kind, point_instancer_kind}
use Rattle.hd_value.specs.Maps.{Map}
use Rattle.hd_dirty.specs.Kinds.{all_of}
use Rattle.hd_rprim.specs.declared.row.Row.TheVariants.{Rprim, Camera, Material, Instancer}
use Rattle.hd_rprim.specs.declared.row.Shape.TheVariants.{Mesh, Points}
use Rattle.hd_rprim.specs.PrimRows.{row_read, contents_read}
use Rattle.hd_rprim.specs.Rows.{blank, blank_rprim, blank_instancer}
use Rattle.hd_rprim.specs.Staged.{staged, buffers_of}
use Rattle.hd_rprim.specs.Laws.{AllBitsReadRow, AllBitsWantContents, RowsHaveBlanks}

-- a kind that has no rows
pub record HasNoRows (kind : Name) : Type 0 where
  pub no_blank : blank kind ≡ None
  pub no_row : (values : Map) → row_read kind values ≡ None

-- what holds of each kind that has rows, and of all kinds that have none, holds of all
pub each_kind : (P : Name → Type 0) → P mesh_kind → P points_kind → P camera_kind → P material_kind → P point_instancer_kind
    → ((kind : Name) → HasNoRows kind → P kind) → (kind : Name) → P kind
each_kind P of_mesh of_points of_camera of_material of_instancer of_others kind =
    elim (is_same kind mesh_kind) as (λ b. is_same kind mesh_kind ≡ b → P kind) [
      | true ↦ λ is. subst P (sym (bytes_same kind mesh_kind is)) of_mesh
      | false ↦ λ no_mesh.
          elim (is_same kind points_kind) as (λ b. is_same kind points_kind ≡ b → P kind) [
            | true ↦ λ is. subst P (sym (bytes_same kind points_kind is)) of_points
            | false ↦ λ no_points.
                elim (is_same kind camera_kind) as (λ b. is_same kind camera_kind ≡ b → P kind) [
                  | true ↦ λ is. subst P (sym (bytes_same kind camera_kind is)) of_camera
                  | false ↦ λ no_camera.
                      elim (is_same kind material_kind) as (λ b. is_same kind material_kind ≡ b → P kind) [
                        | true ↦ λ is. subst P (sym (bytes_same kind material_kind is)) of_material
                        | false ↦ λ no_material.
                            elim (is_same kind point_instancer_kind) as (λ b. is_same kind point_instancer_kind ≡ b → P kind) [
                              | true ↦ λ is. subst P (sym (bytes_same kind point_instancer_kind is)) of_instancer
                              | false ↦ λ no_instancer.
                                  of_others
                                  kind
                                  (record {
                                    no_blank = rw (no_mesh, no_points, no_camera, no_material, no_instancer) refl;
                                    no_row = λ values. rw (no_mesh, no_points, no_camera, no_material, no_instancer) refl;
                                  })
                            ] refl
                      ] refl
                ] refl
          ] refl
    ] refl

pub all_bits_read_row : AllBitsReadRow
all_bits_read_row kind values row =
    each_kind
    (λ kind. blank kind ≡ Some row → Some (staged (all_of kind) values row) ≡ row_read kind values)
    (λ is. subst (λ r. Some (staged (all_of mesh_kind) values r) ≡ row_read mesh_kind values) (same_Some (Rprim (blank_rprim Mesh)) row is) refl)
    (λ is. subst (λ r. Some (staged (all_of points_kind) values r) ≡ row_read points_kind values) (same_Some (Rprim (blank_rprim Points)) row is) refl)
    (λ is. subst (λ r. Some (staged (all_of camera_kind) values r) ≡ row_read camera_kind values) (same_Some (Camera None) row is) refl)
    (λ is. subst (λ r. Some (staged (all_of material_kind) values r) ≡ row_read material_kind values) (same_Some (Material None) row is) refl)
    (λ is. subst (λ r. Some (staged (all_of point_instancer_kind) values r) ≡ row_read point_instancer_kind values) (same_Some (Instancer blank_instancer) row is) refl)
    (λ kind none is. let other : None ≡ Some row = sym none.no_blank ∙ is in absurd (cc))
    kind

pub all_bits_want_contents : AllBitsWantContents
all_bits_want_contents kind values row =
    each_kind
    (λ kind. blank kind ≡ Some row → buffers_of (all_of kind) values row ≡ contents_read (staged (all_of kind) values row) values)
    (λ is. subst (λ r. buffers_of (all_of mesh_kind) values r ≡ contents_read (staged (all_of mesh_kind) values r) values) (same_Some (Rprim (blank_rprim Mesh)) row is) refl)
    (λ is. subst (λ r. buffers_of (all_of points_kind) values r ≡ contents_read (staged (all_of points_kind) values r) values) (same_Some (Rprim (blank_rprim Points)) row is) refl)
    (λ is. subst (λ r. buffers_of (all_of camera_kind) values r ≡ contents_read (staged (all_of camera_kind) values r) values) (same_Some (Camera None) row is) refl)
    (λ is. subst (λ r. buffers_of (all_of material_kind) values r ≡ contents_read (staged (all_of material_kind) values r) values) (same_Some (Material None) row is) refl)
    (λ is. subst (λ r. buffers_of (all_of point_instancer_kind) values r ≡ contents_read (staged (all_of point_instancer_kind) values r) values) (same_Some (Instancer blank_instancer) row is) refl)
    (λ kind none is. let other : None ≡ Some row = sym none.no_blank ∙ is in absurd (cc))
    kind

pub rows_have_blanks : RowsHaveBlanks
rows_have_blanks kind values =
    each_kind
    (λ kind. (blank kind ≡ None) ↔ (row_read kind values ≡ None))
    (λ is. absurd (cc), λ is. absurd (cc))
    (λ is. absurd (cc), λ is. absurd (cc))
    (λ is. absurd (cc), λ is. absurd (cc))
    (λ is. absurd (cc), λ is. absurd (cc))
    (λ is. absurd (cc), λ is. absurd (cc))
    (λ kind none. (λ _. none.no_row values, λ _. none.no_blank))
    kind
