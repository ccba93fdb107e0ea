-- What a prim has and what it takes from those above it.
-- Each definition reads the values of the prim and of its ancestors: a list that begins with the prim, or with the nearest ancestor, and ends with the root prim.
use Rattle.std.specs.Prelude.{ℕ, zero, suc, ◌-◌, ◌==◌, Bool, false, not, ◌||◌, if◌then◌else◌, List, [], ◌∷◌, length, take, Option, Some, None, codes, unwrap_or}
use Rattle.std.specs.FinMap.{get, empty}
use Rattle.std.specs.List.{list_all}
use Rattle.std.specs.Option.{option_map_or, option_or, option_and_then}
use Rattle.hd_num.specs.declared.vector.Rgb.{Rgb}
use Rattle.hd_num.specs.Matrices.{Rows, identity}
use Rattle.hd_path.specs.Names.{Name, is_same}
use Rattle.hd_value.specs.Maps.{Map}
use Rattle.hd_scene.specs.Scenes.{Scene}
use Rattle.hd_scene.specs.declared.prims.Entry.{Entry}
use Rattle.hd_tokens.specs.Locators.{visibility_at, purpose_at, binding_at, color8_at, display_color_at}
use Rattle.hd_flattening.specs.Values.{token_of, paths_of, colors_of}
use Rattle.hd_flattening.specs.Local.{compose, local, is_reset}
use Rattle.hd_path.specs.Paths.{Path}

-- the values of the prim at a path
abbrev pub values_at : Scene → Path → Map
values_at scene path = option_map_or (λ (e : Entry). e.values) (get scene path) empty

-- the values of the first so many prims on the way to a path, the last of them first
abbrev pub values_up : Scene → Path → ℕ → List Map
values_up scene path zero = []
values_up scene path (suc n) = values_at scene (take (suc n) path) ∷ values_up scene path n

-- the values of the ancestors of a path, the nearest first
abbrev pub ancestors : Scene → Path → List Map
ancestors scene path = values_up scene path (length path - 1)

-- of those that have it, the nearest
abbrev pub nearest : {A : Type 0} → (Map → Option A) → List Map → Option A
nearest own [] = None
nearest own (prim ∷ above) = option_or (own prim) (nearest own above)

-- whether a prim takes no matrix from above: it is reset, or a root prim
abbrev pub resets_xform_stack : Map → (above : List Map) → Bool
resets_xform_stack prim above = is_reset prim || length above == 0

-- the local matrix and then the parent's, and none where either or the product is out of range
abbrev pub flat_matrix : List Map → Option Rows
flat_matrix [] = Some identity
flat_matrix (prim ∷ above) = if resets_xform_stack prim above then local prim else compose (local prim) (flat_matrix above)

abbrev pub is_invisible : Map → Bool
is_invisible prim = option_map_or (λ word. is_same word (codes "invisible")) (token_of (get prim visibility_at)) false

-- none of them is invisible
abbrev pub is_visible : List Map → Bool
is_visible prims = list_all (λ prim. not (is_invisible prim)) prims

abbrev pub authored_purpose : Map → Option Name
authored_purpose prim = token_of (get prim purpose_at)

abbrev pub flat_purpose : List Map → Name
flat_purpose prims = unwrap_or (nearest authored_purpose prims) (codes "default")

abbrev pub authored_binding : Map → Option (List Path)
authored_binding prim = paths_of (get prim binding_at)

-- the first of some paths
abbrev pub first_of : List Path → Option Path
first_of [] = None
first_of (path ∷ paths) = Some path

-- the first path of the nearest binding; one that is authored with no paths is no binding
abbrev pub flat_binding : List Map → Option Path
flat_binding prims = option_and_then first_of (nearest authored_binding prims)

-- the list, or the other one where it is empty
abbrev pub or_if_empty : List Rgb → List Rgb → List Rgb
or_if_empty [] others = others
or_if_empty (c ∷ colors) others = c ∷ colors

-- the colours of a prim's own, of which those by bytes come before those for display
abbrev pub own_colors : Map → List Rgb
own_colors prim = or_if_empty (colors_of (get prim color8_at)) (colors_of (get prim display_color_at))

-- the own list, where it has one colour
abbrev pub single : List Rgb → Option (List Rgb)
single colors = if length colors == 1 then Some colors else None

abbrev pub own_single : Map → Option (List Rgb)
own_single prim = single (own_colors prim)

-- the own list, or else that of the nearest ancestor whose own list has one colour
abbrev pub flat_colors : List Map → List Rgb
flat_colors [] = []
flat_colors (prim ∷ above) = or_if_empty (own_colors prim) (unwrap_or (nearest own_single above) [])
