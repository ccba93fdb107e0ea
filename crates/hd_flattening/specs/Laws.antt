-- What follows from the definitions.
use Rattle.std.specs.Prelude.{◌≡◌, ◌≢◌, true, false, List, [], ◌∷◌, ◌++◌, Option, Some, None}
use Rattle.hd_num.specs.Matrices.{Rows, product, if_in_range}
use Rattle.hd_value.specs.Maps.{Map}
use Rattle.hd_value.specs.Schema.{is_instanced, is_flattened}
use Rattle.hd_scene.specs.Scenes.{Scene, IsClosed, SceneConforms}
use Rattle.hd_flattening.specs.Local.{local, is_reset}
use Rattle.hd_flattening.specs.Flat.{values_at, ancestors, flat_matrix, is_invisible, is_visible}
use Rattle.hd_flattening.specs.Flattened.{flattened_scene}
use Rattle.hd_path.specs.Paths.{Path}
use Rattle.hd_path.specs.Names.{Name}

-- the values of a path's prim and of its ancestors
abbrev pub lineage : Scene → Path → List Map
lineage scene path = values_at scene path ∷ ancestors scene path

abbrev pub flat_matrix_at : Scene → Path → Option Rows
flat_matrix_at scene path = flat_matrix (lineage scene path)

-- a child is moved by its local matrix and then by its parent's flat one
abbrev pub MatrixOfChild : Type 0
MatrixOfChild =
    (scene : Scene) (path : Path) (name : Name) (own above : Rows) → path ≢ [] → is_reset (values_at scene (path ++ name ∷ [])) ≡ false
    → local (values_at scene (path ++ name ∷ [])) ≡ Some own → flat_matrix_at scene path ≡ Some above → flat_matrix_at scene (path ++ name ∷ []) ≡ if_in_range (product own above)

-- below a matrix that is out of range all are, but for what is reset
abbrev pub MatrixOutOfRange : Type 0
MatrixOutOfRange =
    (scene : Scene) (path : Path) (name : Name) → path ≢ [] → is_reset (values_at scene (path ++ name ∷ [])) ≡ false
    → flat_matrix_at scene path ≡ None → flat_matrix_at scene (path ++ name ∷ []) ≡ None

-- a root prim and a prim that is reset have their local matrix
abbrev pub MatrixOfRoot : Type 0
MatrixOfRoot = (scene : Scene) (name : Name) → flat_matrix_at scene (name ∷ []) ≡ local (values_at scene (name ∷ []))

abbrev pub MatrixOfReset : Type 0
MatrixOfReset = (scene : Scene) (path : Path) → is_reset (values_at scene path) ≡ true → flat_matrix_at scene path ≡ local (values_at scene path)

-- an invisible prim hides itself and all below it
abbrev pub InvisibleHides : Type 0
InvisibleHides = (scene : Scene) (path rest : Path) → path ≢ [] → is_invisible (values_at scene path) ≡ true → is_visible (lineage scene (path ++ rest)) ≡ false

-- a flat scene is closed where the scene is, and has the values that flattening gives
abbrev pub FlattenedIsClosed : Type 0
FlattenedIsClosed = (scene : Scene) → IsClosed scene → IsClosed (flattened_scene scene)

abbrev pub FlattenedConforms : Type 0
FlattenedConforms = (scene : Scene) → SceneConforms is_instanced scene → SceneConforms is_flattened (flattened_scene scene)
