-- Which values may be at which locators.
use Rattle.std.specs.Prelude.{◌≡◌, Bool, true, false, ◌&&◌, ◌||◌, nat_eq, List, [], ◌∷◌, codes, Some, IsTrue}
use Rattle.std.specs.List.{list_all, list_any}
use Rattle.std.specs.Str.{bytes_eq}
use Rattle.std.specs.FinMap.{get}
use Rattle.hd_num.specs.declared.axis.Axis.TheVariants.{X, Y, Z}
use Rattle.hd_num.specs.declared.op.Op as ops
use Rattle.hd_num.specs.declared.op.Op.TheVariants.{Translate, Scale, Rotate, RotateXyz, Transform}
use Rattle.hd_num.specs.declared.vector.Rgb.{Rgb}
use Rattle.hd_tokens.specs.Locators.{Locator, points_at, counts_at, indices_at, display_color_at, color8_at, color_at, order_at, op_at, reset_at, matrix_at, visibility_at, purpose_at, binding_at, positions_at, proto_indices_at, prototypes_at, instanced_by_at, material_color_at}
use Rattle.hd_tokens.specs.Names.{is_any}
use Rattle.hd_tokens.specs.Properties.{first_part, visibilities, purposes, is_op_entry}
use Rattle.hd_value.specs.declared.value.Value.{Value}
use Rattle.hd_value.specs.declared.value.Value.TheVariants.{Token, Tokens, Ints, Vecs, Color, Colors, Paths, Op, Matrix, Out, Flag}
use Rattle.hd_path.specs.Names.{Name}
use Rattle.hd_path.specs.Paths.{is_prefix}
use Rattle.hd_value.specs.Maps.{Map}

-- a token that is one of these words
abbrev pub is_word_of : List Name → Value → Bool
is_word_of words (Token t) = is_any words t
is_word_of words _ = false

-- the kind of an op
abbrev pub kind_of : ops.Op → Name
kind_of (Translate by) = codes "translate"
kind_of (Scale by) = codes "scale"
kind_of (Rotate X turns) = codes "rotateX"
kind_of (Rotate Y turns) = codes "rotateY"
kind_of (Rotate Z turns) = codes "rotateZ"
kind_of (RotateXyz x y z) = codes "rotateXYZ"
kind_of (Transform matrix) = codes "transform"

-- names of ops, and before them perhaps the entry that leaves out the parent's matrix
abbrev pub is_order : Value → Bool
is_order (Tokens []) = true
is_order (Tokens (entry ∷ entries)) = is_op_entry true entry && list_all (is_op_entry false) entries
is_order _ = false

abbrev pub is_ints : Value → Bool
is_ints (Ints ns) = true
is_ints _ = false

abbrev pub is_vecs : Value → Bool
is_vecs (Vecs vs) = true
is_vecs _ = false

abbrev pub is_color : Value → Bool
is_color (Color c) = true
is_color _ = false

abbrev pub is_colors : Value → Bool
is_colors (Colors cs) = true
is_colors _ = false

-- no or full light in each channel
abbrev pub is_full_or_dark : Rgb → Bool
is_full_or_dark c = list_all (λ n. nat_eq n 0 || nat_eq n 255) (c.r ∷ c.g ∷ c.b ∷ [])

abbrev pub is_display_colors : Value → Bool
is_display_colors (Colors cs) = list_all is_full_or_dark cs
is_display_colors _ = false

abbrev pub is_paths : Value → Bool
is_paths (Paths ps) = true
is_paths _ = false

abbrev pub is_some_paths : Value → Bool
is_some_paths (Paths (p ∷ ps)) = true
is_some_paths _ = false

abbrev pub is_one_path : Value → Bool
is_one_path (Paths (p ∷ [])) = true
is_one_path _ = false

abbrev pub is_flag : Value → Bool
is_flag (Flag b) = true
is_flag _ = false

abbrev pub is_set_flag : Value → Bool
is_set_flag (Flag b) = b
is_set_flag _ = false

-- a matrix, or one that is out of range
abbrev pub is_matrix : Value → Bool
is_matrix (Matrix m) = true
is_matrix Out = true
is_matrix _ = false

-- a locator and the values that may be there
abbrev pub Row : Type 0
Row = Locator × (Value → Bool)

-- what is the same before and after flattening
abbrev pub passed_rows : List Row
passed_rows =
    (points_at, is_vecs)
    ∷ (counts_at, is_ints)
    ∷ (indices_at, is_ints)
    ∷ (positions_at, is_vecs)
    ∷ (proto_indices_at, is_ints)
    ∷ (prototypes_at, is_paths)
    ∷ (material_color_at, is_color)
    ∷ []

-- what flattening takes away
abbrev pub flattened_away_rows : List Row
flattened_away_rows =
    (display_color_at, is_display_colors)
    ∷ (color8_at, is_colors)
    ∷ (order_at, is_order)
    ∷ (visibility_at, is_word_of visibilities)
    ∷ (purpose_at, is_word_of purposes)
    ∷ (binding_at, is_paths)
    ∷ []

-- the instancers of a prim, which instancing adds
abbrev pub instanced_by_row : Row
instanced_by_row = (instanced_by_at, is_some_paths)

-- the mark of a prototype root, which instancing adds
abbrev pub reset_row : Row
reset_row = (reset_at, is_set_flag)

-- what flattening gives
abbrev pub flattened_rows : List Row
flattened_rows =
    (matrix_at, is_matrix)
    ∷ (visibility_at, is_flag)
    ∷ (purpose_at, is_word_of purposes)
    ∷ (binding_at, is_one_path)
    ∷ (color_at, is_colors)
    ∷ []

-- whether a row of the table has the locator and allows the value
abbrev pub allows : List Row → Locator → Value → Bool
allows rows at value = list_any (λ row. is_prefix row.0 at && is_prefix at row.0 && row.1 value) rows

-- an op, at the locator of its name: its kind, which a colon and more may follow
abbrev pub is_named_op : Locator → Value → Bool
is_named_op (a ∷ b ∷ name ∷ []) (Op op) = is_prefix (op_at name) (a ∷ b ∷ name ∷ []) && bytes_eq (first_part name) (kind_of op)
is_named_op _ _ = false

-- what a layer may author
abbrev pub is_authored : Locator → Value → Bool
is_authored at value = allows passed_rows at value || allows flattened_away_rows at value || is_named_op at value

-- what may be there after instancing
abbrev pub is_instanced : Locator → Value → Bool
is_instanced at value = is_authored at value || allows (instanced_by_row ∷ reset_row ∷ []) at value

-- what may be there after flattening
abbrev pub is_flattened : Locator → Value → Bool
is_flattened at value = allows passed_rows at value || allows (instanced_by_row ∷ []) at value || allows flattened_rows at value

-- each value of the container may be where it is
abbrev pub Conforms : (Locator → Value → Bool) → Map → Type 0
Conforms may_be m = (at : Locator) (value : Value) → get m at ≡ Some value → IsTrue (may_be at value)

-- what a layer gives
abbrev pub IsAuthored : Map → Type 0
IsAuthored m = Conforms is_authored m

-- what instancing gives
abbrev pub IsInstanced : Map → Type 0
IsInstanced m = Conforms is_instanced m
