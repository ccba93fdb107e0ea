-- What a list of notices tells of a step from one scene to another.
use Rattle.std.specs.Prelude.{◌≡◌, Bool, false, ◌||◌, ◌&&◌, if◌then◌else◌, List, [], ◌∷◌, Option, Some, None}
use Rattle.std.specs.Option.{option_or}
use Rattle.std.specs.List.{list_any}
use Rattle.std.specs.Cmp.Lexicographic.{pointwise}
use Rattle.hd_path.specs.Names.{Name, is_same}
use Rattle.hd_path.specs.Paths.{Path, is_prefix}
use Rattle.hd_value.specs.LocatorSets.{touches}
use Rattle.hd_scene.specs.Scenes.{Scene, kind_at, value_at}
use Rattle.hd_scene.specs.declared.notice.Notice.{Notice}
use Rattle.hd_scene.specs.declared.notice.Notice.TheVariants.{Added, Removed, Dirtied, Renamed}
use Rattle.hd_tokens.specs.Locators.{Locator}

-- whether the two paths are one
abbrev pub is_same_path : Path → Path → Bool
is_same_path = pointwise is_same

-- the kind at p after one notice, where it was `old` before, and is `now` in the new scene.
-- A renaming takes out what is at or below its first path, and adds what the new scene has at or below its second one
abbrev pub kind_by : Notice → (p : Path) → (now old : Option Name) → Option Name
kind_by (Added path kind) p now old = if is_same_path path p then Some kind else old
kind_by (Removed path) p now old = if is_prefix path p then None else old
kind_by (Dirtied path set) p now old = old
kind_by (Renamed from to) p now old =
    let left = if is_prefix from p then None else old in
    if is_prefix to p then option_or now left else left

-- and after all of them, in order
abbrev pub kind_after : List Notice → (p : Path) → (now old : Option Name) → Option Name
kind_after [] p now old = old
kind_after (n ∷ ns) p now old = kind_after ns p now (kind_by n p now old)

-- whether the notice says of p that all may have changed: that it is resynced
abbrev pub is_resynced_by : Notice → Path → Bool
is_resynced_by (Added path kind) p = is_same_path path p
is_resynced_by (Removed path) p = is_prefix path p
is_resynced_by (Dirtied path set) p = false
is_resynced_by (Renamed from to) p = is_prefix from p || is_prefix to p

abbrev pub is_resynced : List Notice → Path → Bool
is_resynced notices p = list_any (λ n. is_resynced_by n p) notices

-- whether the notice says that values of p may have changed at locators that intersect this one
abbrev pub is_dirtied_by : Notice → Path → Locator → Bool
is_dirtied_by (Added path kind) p at = false
is_dirtied_by (Removed path) p at = false
is_dirtied_by (Dirtied path set) p at = is_same_path path p && touches set at
is_dirtied_by (Renamed from to) p at = false

abbrev pub is_dirtied : List Notice → Path → Locator → Bool
is_dirtied notices p at = list_any (λ n. is_dirtied_by n p at) notices

-- the notices tell the step from the old scene to the new one: they leave at each path the kind that it has, and where
-- neither the prim is resynced nor the locator dirtied, both scenes have the same value, or none.
-- A prim that is not resynced keeps its kind, or is absent before and after
pub record Tells (old new : Scene) (notices : List Notice) : Type 0 where
  pub kinds : (p : Path) → kind_at new p ≡ kind_after notices p (kind_at new p) (kind_at old p)
  pub values : (p : Path) (at : Locator) → is_resynced notices p ≡ false → is_dirtied notices p at ≡ false → value_at new p at ≡ value_at old p at
