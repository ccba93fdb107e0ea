-- What a walk of a scene appends to a list of paths.
use Rattle.std.specs.Prelude.{◌≡◌, ◌&&◌, List, [], ◌∷◌, ◌++◌, is_some}
use Rattle.std.specs.List.{list_any}
use Rattle.std.specs.List.Sorted.{IsStrictlySortedBy}
use Rattle.std.specs.Ordering.{eq_by_cmp}
use Rattle.std.specs.FinMap.{get}
use Rattle.hd_path.specs.Names.{Name}
use Rattle.hd_path.specs.Paths.{Path, path_cmp, is_prefix}
use Rattle.hd_scene.specs.Scenes.{Scene}

-- the paths of the prims at and below the children of these names, in path order
pub record AppendsBelow (scene : Scene) (path : Path) (names : List Name) (before after : List Path) : Type 0 where
  pub added : List Path
  pub appended : after ≡ before ++ added
  pub ascending : IsStrictlySortedBy path_cmp added
  pub members : (q : Path) → list_any (eq_by_cmp path_cmp q) added ≡ (is_some (get scene q) && list_any (λ name. is_prefix (path ++ name ∷ []) q) names)
