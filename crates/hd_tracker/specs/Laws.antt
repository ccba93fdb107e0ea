-- What follows from the definitions.
use Rattle.std.specs.Prelude.{◌≡◌, true, false, if◌then◌else◌, List, ◌++◌, All, IfSome, Option, Some, None, IsSomeAnd}
use Rattle.std.specs.Option.{option_map}
use Rattle.hd_path.specs.Names.{Name}
use Rattle.hd_path.specs.Paths.{Path, is_prefix}
use Rattle.hd_tokens.specs.Locators.{Locator}
use Rattle.hd_value.specs.Groups.{locator_of_group}
use Rattle.hd_value.specs.declared.groups.Group.{Group}
use Rattle.hd_dirty.specs.Bits.{contains, has, number_of}
use Rattle.hd_dirty.specs.Kinds.{all_of}
use Rattle.hd_scene.specs.Scenes.{Scene, kind_at, value_at}
use Rattle.hd_scene.specs.Tells.{kind_after, is_resynced, is_dirtied, Tells}
use Rattle.hd_scene.specs.declared.notice.Notice.{Notice}
use Rattle.hd_tracker.specs.declared.tracker.Tracked.{Tracked}
use Rattle.hd_tracker.specs.Tracks.{has_bits, tracked_after, is_renaming}

-- notice lists compose: the notices of a first step and after them those of a second one do what both lists do in turn
abbrev pub TrackingComposes : Type 0
TrackingComposes = (first second : List Notice) (p : Path) (old : Option Tracked) → tracked_after (first ++ second) p old ≡ tracked_after second p (tracked_after first p old)

-- the kind has bits, and they are all that can be set
pub record IsSound (t : Tracked) : Type 0 where
  pub kept : has_bits t.kind ≡ true
  pub within : contains (all_of t.kind) (number_of t.bits) ≡ true

-- notices set no other bits than those of the kind, and keep no path whose kind has none
abbrev pub StaysSound : Type 0
StaysSound = (notices : List Notice) (p : Path) (old : Option Tracked) → IfSome old IsSound → IfSome (tracked_after notices p old) IsSound

-- the kind that is kept
abbrev pub kind_in : Option Tracked → Option Name
kind_in kept = option_map (λ (t : Tracked). t.kind) kept

-- the kind of a prim where it has bits
abbrev pub kind_with_bits : Option Name → Option Name
kind_with_bits None = None
kind_with_bits (Some kind) = if has_bits kind then Some kind else None

-- no notice is a renaming
abbrev pub NoneRenames : List Notice → Type 0
NoneRenames notices = All (λ n. is_renaming n ≡ false) notices

-- the kind that is kept after notices is the one that they leave, where it has bits
abbrev pub KeepsKinds : Type 0
KeepsKinds = (notices : List Notice) (p : Path) (now old : Option Name) (kept : Option Tracked) → NoneRenames notices → kind_in kept ≡ kind_with_bits old
    → kind_in (tracked_after notices p kept) ≡ kind_with_bits (kind_after notices p now old)

-- so where the kinds that are kept are those of a scene, they are those of the next one after the notices that tell the step
abbrev pub FollowsKinds : Type 0
FollowsKinds = (old new : Scene) (notices : List Notice) (p : Path) (kept : Option Tracked) → NoneRenames notices → Tells old new notices → kind_in kept ≡ kind_with_bits (kind_at old p)
    → kind_in (tracked_after notices p kept) ≡ kind_with_bits (kind_at new p)

-- no notice says that the prim at p is resynced, or that values at or below the group's locator may have changed
pub record IsUntold (notices : List Notice) (p : Path) (group : Group) : Type 0 where
  pub resynced : is_resynced notices p ≡ false
  pub dirtied : (at : Locator) → is_prefix (locator_of_group group) at ≡ true → is_dirtied notices p at ≡ false

-- where the bit of a group that the kind has is clear after notices, none of them speaks of the group's values, and the bit was
-- clear before, of a prim of that kind
abbrev pub ClearBitsAreUntold : Type 0
ClearBitsAreUntold = (notices : List Notice) (p : Path) (old : Option Tracked) (new : Tracked) (group : Group) → NoneRenames notices → tracked_after notices p old ≡ Some new
    → has (all_of new.kind) group ≡ true → has (number_of new.bits) group ≡ false
    → IsUntold notices p group × IsSomeAnd old (λ t. (t.kind ≡ new.kind) × (has (number_of t.bits) group ≡ false))

-- so the values of that group are what they were before the step that the notices tell
abbrev pub ClearBitsKeepValues : Type 0
ClearBitsKeepValues = (old new : Scene) (notices : List Notice) (p : Path) (kept : Option Tracked) (t : Tracked) (group : Group) (at : Locator) → NoneRenames notices → Tells old new notices
    → tracked_after notices p kept ≡ Some t → has (all_of t.kind) group ≡ true → has (number_of t.bits) group ≡ false → is_prefix (locator_of_group group) at ≡ true
    → value_at new p at ≡ value_at old p at
