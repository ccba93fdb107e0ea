-- What follows from the definitions.
use Rattle.std.specs.Prelude.{◌≡◌, ◌≢◌, false, not, List, [], ◌∷◌, ◌++◌, Some, None}
use Rattle.std.specs.FinMap.{get, insert, retain_keys}
use Rattle.hd_path.specs.Paths.{Path, is_prefix}
use Rattle.hd_value.specs.LocatorSets.{touches}
use Rattle.hd_scene.specs.Scenes.{Scene, kind_at, children_of, AreChildren, IsClosed}
use Rattle.hd_scene.specs.Tells.{kind_after, is_resynced, is_dirtied, Tells}
use Rattle.hd_scene.specs.declared.prims.Entry.{Entry}
use Rattle.hd_scene.specs.declared.notice.Notice.{Notice}
use Rattle.hd_scene.specs.declared.notice.Notice.TheVariants.{Added, Removed, Dirtied}
use Rattle.hd_path.specs.Names.{Name}
use Rattle.hd_tokens.specs.Locators.{Locator}

-- notice lists compose: the notices of a first step and after them those of a second one tell both steps
abbrev pub TellingComposes : Type 0
TellingComposes = (a b c : Scene) (first second : List Notice) → Tells a b first → Tells b c second → Tells a c (first ++ second)

-- no notice tells that nothing has changed
abbrev pub NothingIsTold : Type 0
NothingIsTold = (scene : Scene) → Tells scene scene []

-- a prim that is put at a path is told as added
abbrev pub AddedIsTold : Type 0
AddedIsTold = (scene : Scene) (path : Path) (e : Entry) → Tells scene (insert scene path e) (Added path e.kind ∷ [])

-- prims that are taken out at and below a path are told as removed
abbrev pub RemovedIsTold : Type 0
RemovedIsTold = (scene : Scene) (path : Path) → Tells scene (retain_keys scene (λ p. not (is_prefix path p))) (Removed path ∷ [])

-- a prim that keeps its kind is told as dirtied, where the set intersects each locator at which its values differ
abbrev pub DirtiedIsTold : Type 0
DirtiedIsTold = (scene : Scene) (path : Path) (old new : Entry) (set : List Locator) → get scene path ≡ Some old → new.kind ≡ old.kind
    → ((at : Locator) → touches set at ≡ false → get new.values at ≡ get old.values at) → Tells scene (insert scene path new) (Dirtied path set ∷ [])

-- a prim that is not resynced keeps its kind, or is absent before and after
abbrev pub UntoldKeepTheirKinds : Type 0
UntoldKeepTheirKinds = (old new : Scene) (notices : List Notice) (path : Path) → Tells old new notices → is_resynced notices path ≡ false → kind_at new path ≡ kind_at old path

-- so values need to be told only of prims that are in both
abbrev pub ToldWhereBothAre : Type 0
ToldWhereBothAre = (old new : Scene) (notices : List Notice) → ((p : Path) → kind_at new p ≡ kind_after notices p (kind_at new p) (kind_at old p))
    → ((p : Path) (at : Locator) (e f : Entry) → get old p ≡ Some e → get new p ≡ Some f → is_resynced notices p ≡ false → is_dirtied notices p at ≡ false → get f.values at ≡ get e.values at)
    → Tells old new notices

-- the children of a path are the names of the prims immediately below it, each once and in byte order
abbrev pub ChildrenStandBelow : Type 0
ChildrenStandBelow = (scene : Scene) (path : Path) → AreChildren scene path (children_of scene path)

-- and no other list is
abbrev pub ChildrenAreOneList : Type 0
ChildrenAreOneList = (scene : Scene) (path : Path) (names : List Name) → AreChildren scene path names → names ≡ children_of scene path

-- where no prim is, none is below, but for the root
abbrev pub AbsentHasNoChildren : Type 0
AbsentHasNoChildren = (scene : Scene) (path : Path) → IsClosed scene → path ≢ [] → get scene path ≡ None → children_of scene path ≡ []
