-- What holds of instanced scenes.
use Rattle.std.proofs.Common.{◌≡◌, ◌∙◌, ap, is_some}
use Rattle.std.specs.Option.{option_map}
use Rattle.std.specs.FinMap.{get}
use Rattle.hd_path.specs.Paths.{Path}
use Rattle.hd_scene.specs.Scenes.{Scene, IsClosed}
use Rattle.hd_scene.proofs.EachPrim.{get-with_each_prim, is_some-map, same_paths_closed}
use Rattle.hd_instancing.specs.Instanced.{instanced_entry, instanced_scene}

-- what an instanced scene has at a path
pub get-instanced : (scene : Scene) (q : Path) → get (instanced_scene scene) q ≡ option_map (instanced_entry scene q) (get scene q)
unfolding instanced_scene
get-instanced scene q = get-with_each_prim (instanced_entry scene) scene q

pub there-instanced : (scene : Scene) (q : Path) → is_some (get (instanced_scene scene) q) ≡ is_some (get scene q)
there-instanced scene q = ap is_some (get-instanced scene q) ∙ is_some-map _ (get scene q)

pub instanced_closed : (scene : Scene) → IsClosed scene → IsClosed (instanced_scene scene)
instanced_closed scene closed = same_paths_closed scene (instanced_scene scene) (there-instanced scene) closed
