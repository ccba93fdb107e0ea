-- What follows from the definitions.
use Rattle.std.specs.Prelude.{◌≡◌, ◌≢◌, false, [], ◌++◌, map, Some, None, Ok, IsSome, IsTrue, Contains, option_and_then}
use Rattle.std.specs.FinMap.{get}
use Rattle.hd_layer.specs.declared.spec.PrimSpec.{PrimSpec}
use Rattle.hd_layer.specs.declared.spec.LayerSpec.{LayerSpec}
use Rattle.hd_layer.specs.WellFormed.{is_layer}
use Rattle.hd_path.specs.Paths.{Path, is_prefix}
use Rattle.hd_schema.specs.Authored.{authored_at}
use Rattle.hd_scene.specs.Scenes.{kind_at, value_at, IsClosed}
use Rattle.hd_retained.specs.Layers.{LayerPrim, Layer, property_list, kind_in, layer_of, scene_of}
use Rattle.hd_retained.specs.Edits.{after_rename}
use Rattle.hd_tokens.specs.Locators.{Locator}

-- the scene of a layer has its prims, each with its kind
abbrev pub ScenesHaveKinds : Type 0
ScenesHaveKinds = (layer : Layer) (path : Path) → kind_at (scene_of layer) path ≡ kind_in layer path

-- and at each locator with the value of the property that is there, or with none
abbrev pub ScenesHaveValues : Type 0
ScenesHaveValues = (layer : Layer) (path : Path) (at : Locator) → value_at (scene_of layer) path at ≡ option_and_then (λ (p : LayerPrim). authored_at (property_list p.properties) at) (get layer path)

-- the layer has the prims of a text with their kinds, in its scene with the values that their properties author, and no
-- other prim
pub record IsAsSpelled (l : LayerSpec) (layer : Layer) : Type 0 where
  pub kinds : (p : PrimSpec) → Contains l.prims p → kind_in layer p.path ≡ Some p.kind
  pub values : (p : PrimSpec) (at : Locator) → Contains l.prims p → value_at (scene_of layer) p.path at ≡ authored_at p.properties at
  pub paths : (path : Path) → IsSome (get layer path) → Contains (map (λ (p : PrimSpec). p.path) l.prims) path

abbrev pub TextsSpellLayers : Type 0
TextsSpellLayers = (l : LayerSpec) → IsTrue (is_layer l) → IsAsSpelled l (layer_of l)

-- what was at and below the first path is at and below the second one, nothing is left there, and all else is the same
pub record IsMoved (from to : Path) (old new : Layer) : Type 0 where
  pub moved : (rest : Path) → get new (to ++ rest) ≡ get old (from ++ rest)
  pub gone : (rest : Path) → get new (from ++ rest) ≡ None
  pub same : (q : Path) → is_prefix from q ≡ false → is_prefix to q ≡ false → get new q ≡ get old q

abbrev pub RenamingMoves : Type 0
RenamingMoves = (old new : Layer) (from to : Path) → IsClosed (scene_of old) → to ≢ [] → after_rename old from to ≡ Ok new → IsMoved from to old new
