-- What a prim takes from those above it. The prims on the way to a path are listed from the last, which is the prim itself, to the root prim.
use Rattle.std.specs.Prelude.{ℕ, zero, suc, ◌==◌, Bool, false, ◌||◌, not, if◌then◌else◌, List, [], ◌∷◌, length, map, take, Option, Some, None, option_and_then, unwrap_or, codes}
use Rattle.std.specs.List.{list_all}
use Rattle.std.specs.Option.{option_map_or, option_or}
use Rattle.hd_num.specs.declared.vector.Rgb.{Rgb}
use Rattle.hd_num.specs.Matrices.{Rows, identity}
use Rattle.hd_path.specs.Names.{Name, is_same}
use Rattle.hd_path.specs.Paths.{Path}
use Rattle.hd_schema.specs.Colors.{byte_color, light_color}
use Rattle.hd_retained.specs.Layers.{Layer}
use Rattle.hd_flattening.specs.Flat.{first_of, or_if_empty, single}
use Rattle.hd_flattening.specs.Local.{compose, matrix_of, begins_with_reset}
use Rattle.hd_attributes.specs.Attributes.{triples_of, words_of, word_of, paths_of, op_of}
use Rattle.hd_attributes.specs.Instances.{is_prototype_root}

-- the path, and those above it but for the root
abbrev pub first_names : Path → ℕ → List Path
first_names path zero = []
first_names path (suc n) = take (suc n) path ∷ first_names path n

abbrev pub way_to : Path → List Path
way_to path = first_names path (length path)

-- of the prims that have something, what the first of them has
abbrev pub nearest : {A : Type 0} → (Path → Option A) → List Path → Option A
nearest own [] = None
nearest own (path ∷ above) = option_or (own path) (nearest own above)

-- the entries of the order of ops
abbrev pub op_order : List Layer → Path → List Name
op_order layers path = words_of layers path (codes "xformOpOrder")

-- the ops of some entries, from the last to the first, each multiplied on the right; none where a product is out of range
abbrev pub ops_product : List Layer → Path → (entries : List Name) → Option Rows
ops_product layers path [] = Some identity
ops_product layers path (entry ∷ entries) = compose (ops_product layers path entries) (matrix_of (op_of layers path entry))

-- the prim's own matrix
abbrev pub local : List Layer → Path → Option Rows
local layers path = ops_product layers path (op_order layers path)

-- whether the prim takes no matrix from above: by the entry that resets, or as the root of a prototype
abbrev pub is_reset : List Layer → Path → Bool
is_reset layers path = begins_with_reset (op_order layers path) || is_prototype_root layers path

-- the prim's own matrix and then that of the prim above; its own alone where it is reset, or is a root prim
abbrev pub flat_matrix : List Layer → List Path → Option Rows
flat_matrix layers [] = Some identity
flat_matrix layers (path ∷ above) =
    if is_reset layers path || length above == 0 then local layers path else compose (local layers path) (flat_matrix layers above)

abbrev pub is_invisible : List Layer → Path → Bool
is_invisible layers path = option_map_or (λ word. is_same word (codes "invisible")) (word_of layers path (codes "visibility")) false

-- no prim on the way is invisible
abbrev pub is_visible : List Layer → List Path → Bool
is_visible layers way = list_all (λ path. not (is_invisible layers path)) way

-- the nearest purpose
abbrev pub flat_purpose : List Layer → List Path → Name
flat_purpose layers way = unwrap_or (nearest (λ path. word_of layers path (codes "purpose")) way) (codes "default")

-- the first target of the nearest binding
abbrev pub flat_binding : List Layer → List Path → Option Path
flat_binding layers way = option_and_then first_of (nearest (λ path. paths_of layers path (codes "material:binding")) way)

-- the prim's own colors: those by bytes before those for display, each where there are some
abbrev pub own_colors : List Layer → Path → List Rgb
own_colors layers path =
    or_if_empty (map byte_color (triples_of layers path (codes "primvars:color8"))) (map light_color (triples_of layers path (codes "primvars:displayColor")))

-- its own, or else those of the nearest prim above whose own are one color
abbrev pub flat_colors : List Layer → List Path → List Rgb
flat_colors layers [] = []
flat_colors layers (path ∷ above) = or_if_empty (own_colors layers path) (unwrap_or (nearest (λ p. single (own_colors layers p)) above) [])
