-- The fixed locators of a prim's values.
use Rattle.std.specs.Prelude.{List, [], ◌∷◌, codes}
use Rattle.hd_path.specs.Names.{Name}

-- a locator is the list of its tokens, from the outermost in
abbrev pub Locator : Type 0
Locator = List Name

-- a locator of one token, and of two
abbrev pub one : Name → Locator
one a = a ∷ []

abbrev pub two : Name → Name → Locator
two a b = a ∷ b ∷ []

-- points, of a mesh or of a cloud of points
abbrev pub points_at : Locator
points_at = two (codes "primvars") (codes "points")

-- colors, as they are authored in either of two forms, and as flattening leaves them
abbrev pub color8_at : Locator
color8_at = two (codes "primvars") (codes "color8")

abbrev pub display_color_at : Locator
display_color_at = two (codes "primvars") (codes "displayColor")

abbrev pub color_at : Locator
color_at = two (codes "primvars") (codes "color")

-- a mesh's topology
abbrev pub mesh_at : Locator
mesh_at = one (codes "mesh")

abbrev pub counts_at : Locator
counts_at = two (codes "mesh") (codes "counts")

abbrev pub indices_at : Locator
indices_at = two (codes "mesh") (codes "indices")

-- the transform: the order of its ops, the op of a name, the mark of a prototype's root, and the matrix to the world
abbrev pub xform_at : Locator
xform_at = one (codes "xform")

abbrev pub order_at : Locator
order_at = two (codes "xform") (codes "order")

abbrev pub op_at : Name → Locator
op_at name = codes "xform" ∷ codes "ops" ∷ name ∷ []

abbrev pub reset_at : Locator
reset_at = two (codes "xform") (codes "reset")

abbrev pub matrix_at : Locator
matrix_at = two (codes "xform") (codes "matrix")

abbrev pub visibility_at : Locator
visibility_at = one (codes "visibility")

abbrev pub purpose_at : Locator
purpose_at = one (codes "purpose")

-- the material that a prim is bound to
abbrev pub binding_at : Locator
binding_at = one (codes "binding")

-- an instancer's own values, and the instancers of a prim
abbrev pub instancer_at : Locator
instancer_at = one (codes "instancer")

abbrev pub positions_at : Locator
positions_at = two (codes "instancer") (codes "positions")

abbrev pub proto_indices_at : Locator
proto_indices_at = two (codes "instancer") (codes "protoIndices")

abbrev pub prototypes_at : Locator
prototypes_at = two (codes "instancer") (codes "prototypes")

abbrev pub instanced_by_at : Locator
instanced_by_at = one (codes "instancedBy")

-- a material's own values
abbrev pub material_at : Locator
material_at = one (codes "material")

abbrev pub material_color_at : Locator
material_color_at = two (codes "material") (codes "color8")
