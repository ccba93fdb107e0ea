-- The locators of the groups of values that change together.
use Rattle.std.specs.Prelude.{[], ◌∷◌}
use Rattle.hd_tokens.specs.Locators.{Locator, points_at, mesh_at, color8_at, display_color_at, color_at, xform_at, visibility_at, purpose_at, binding_at, instanced_by_at, instancer_at, material_at}
use Rattle.hd_value.specs.declared.groups.Group.{Group}
use Rattle.hd_value.specs.declared.groups.Group.TheVariants.{Points, Topology, Color, Transform, Visibility, Purpose, Binding, Instancer, Instances, MaterialColor}
use Rattle.hd_value.specs.LocatorSets.{LocatorSet}

-- the locator under which the values of a group are
abbrev pub locator_of_group : Group → Locator
locator_of_group Points = points_at
locator_of_group Topology = mesh_at
locator_of_group Color = color_at
locator_of_group Transform = xform_at
locator_of_group Visibility = visibility_at
locator_of_group Purpose = purpose_at
locator_of_group Binding = binding_at
locator_of_group Instancer = instanced_by_at
locator_of_group Instances = instancer_at
locator_of_group MaterialColor = material_at

-- the locators of a group before flattening, where a color is authored in either of two forms
abbrev pub locators_before_flattening : Group → LocatorSet
locators_before_flattening Color = color8_at ∷ display_color_at ∷ []
locators_before_flattening Points = points_at ∷ []
locators_before_flattening Topology = mesh_at ∷ []
locators_before_flattening Transform = xform_at ∷ []
locators_before_flattening Visibility = visibility_at ∷ []
locators_before_flattening Purpose = purpose_at ∷ []
locators_before_flattening Binding = binding_at ∷ []
locators_before_flattening Instancer = instanced_by_at ∷ []
locators_before_flattening Instances = instancer_at ∷ []
locators_before_flattening MaterialColor = material_at ∷ []
