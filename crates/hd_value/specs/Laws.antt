-- What follows from the definitions.
use Rattle.std.specs.Prelude.{◌≡◌, ◌||◌, List, [], ◌∷◌, IsTrue, count_by}
use Rattle.hd_tokens.specs.Locators.{Locator}
use Rattle.hd_value.specs.declared.groups.Group.{Group}
use Rattle.hd_value.specs.declared.groups.Group.TheVariants.{Points, Topology, Color, Transform, Visibility, Purpose, Binding, Instancer, Instances, MaterialColor}
use Rattle.hd_value.specs.declared.value.Value.{Value}
use Rattle.hd_value.specs.Groups.{locator_of_group, locators_before_flattening}
use Rattle.hd_value.specs.Locators.{intersects}
use Rattle.hd_value.specs.LocatorSets.{LocatorSet, touches, with_locator}
use Rattle.hd_value.specs.Schema.{is_instanced, is_flattened}

-- after the insertion a set intersects what it intersected before, and what the locator intersects
abbrev pub InsertedIntersects : Type 0
InsertedIntersects = (set : LocatorSet) (at x : Locator) → touches (with_locator set at) x ≡ (touches set x || intersects at x)

-- all groups, each once
abbrev pub groups : List Group
groups = Points ∷ Topology ∷ Color ∷ Transform ∷ Visibility ∷ Purpose ∷ Binding ∷ Instancer ∷ Instances ∷ MaterialColor ∷ []

-- each value that flattening gives changes with exactly one group
abbrev pub FlattenedHaveOneGroup : Type 0
FlattenedHaveOneGroup = (at : Locator) (value : Value) → IsTrue (is_flattened at value) → count_by (λ group. intersects (locator_of_group group) at) groups ≡ 1

-- and so does each value before flattening
abbrev pub InstancedHaveOneGroup : Type 0
InstancedHaveOneGroup = (at : Locator) (value : Value) → IsTrue (is_instanced at value) → count_by (λ group. touches (locators_before_flattening group) at) groups ≡ 1
