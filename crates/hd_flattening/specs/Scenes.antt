-- What holds of flattened scenes.
use Rattle.std.proofs.Common.{◌≡◌, ◌∙◌, ap, is_some}
use Rattle.std.specs.Option.{option_map}
use Rattle.std.specs.FinMap.{get}
use Rattle.hd_path.specs.Paths.{Path}
use Rattle.hd_scene.specs.Scenes.{Scene, IsClosed}
use Rattle.hd_scene.proofs.EachPrim.{get-with_each_prim, is_some-map, same_paths_closed}
use Rattle.hd_flattening.specs.Flattened.{flat_entry, flattened_scene}

-- what a flattened scene has at a path
pub get-flattened : (scene : Scene) (q : Path) → get (flattened_scene scene) q ≡ option_map (flat_entry scene q) (get scene q)
unfolding flattened_scene
get-flattened scene q = get-with_each_prim (flat_entry scene) scene q

pub there-flattened : (scene : Scene) (q : Path) → is_some (get (flattened_scene scene) q) ≡ is_some (get scene q)
there-flattened scene q = ap is_some (get-flattened scene q) ∙ is_some-map _ (get scene q)

pub flattened_closed : (scene : Scene) → IsClosed scene → IsClosed (flattened_scene scene)
flattened_closed scene closed = same_paths_closed scene (flattened_scene scene) (there-flattened scene) closed
