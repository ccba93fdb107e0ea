-- The scene in which each prim has what it takes from those above it.
use Rattle.std.specs.Prelude.{Bool, not, List, [], ◌∷◌, map, Option, Some, None}
use Rattle.std.specs.List.{list_any}
use Rattle.std.specs.FinMap.{insert, retain_keys, entries, from_entries}
use Rattle.hd_num.specs.Matrices.{Rows}
use Rattle.hd_value.specs.declared.value.Value.{Value}
use Rattle.hd_value.specs.declared.value.Value.TheVariants.{Token, Colors, Paths, Matrix, Out, Flag}
use Rattle.hd_path.specs.Paths.{Path, is_prefix}
use Rattle.hd_value.specs.Maps.{Map}
use Rattle.hd_scene.specs.Scenes.{Scene, with_each_prim}
use Rattle.hd_scene.specs.declared.prims.Entry.{Entry}
use Rattle.hd_tokens.specs.Locators.{Locator, xform_at, matrix_at, visibility_at, purpose_at, binding_at, color_at, color8_at, display_color_at}
use Rattle.hd_flattening.specs.Flat.{ancestors, flat_matrix, is_visible, flat_purpose, flat_binding, flat_colors}

-- in place of what is at or below these, flattening puts values of its own
abbrev pub replaced_locators : List Locator
replaced_locators = xform_at ∷ visibility_at ∷ purpose_at ∷ binding_at ∷ color8_at ∷ display_color_at ∷ []

-- whether what is at the locator passes
abbrev pub passes : Locator → Bool
passes at = not (list_any (λ front. is_prefix front at) replaced_locators)

-- a matrix as a value
abbrev pub matrix_value : Option Rows → Value
matrix_value None = Out
matrix_value (Some rows) = Matrix rows

-- the map with a binding, where there is one
abbrev pub with_binding : Map → Option Path → Map
with_binding m None = m
with_binding m (Some path) = insert m binding_at (Paths (path ∷ []))

-- the flat values of a prim and of those above it, and what passes of the prim's own
unfoldable pub flat_values : Map → (above : List Map) → Map
flat_values prim above =
    let passed = retain_keys prim passes in
    let placed = insert passed matrix_at (matrix_value (flat_matrix (prim ∷ above))) in
    let shown = insert placed visibility_at (Flag (is_visible (prim ∷ above))) in
    let meant = insert shown purpose_at (Token (flat_purpose (prim ∷ above))) in
    let colored = insert meant color_at (Colors (flat_colors (prim ∷ above))) in
    with_binding colored (flat_binding (prim ∷ above))

-- a prim keeps its kind
abbrev pub flat_entry : Scene → Path → Entry → Entry
flat_entry scene path e = record { kind = e.kind; values = flat_values e.values (ancestors scene path) }

-- each prim of the scene, flattened
unfoldable pub flattened_scene : Scene → Scene
flattened_scene scene = with_each_prim (flat_entry scene) scene
