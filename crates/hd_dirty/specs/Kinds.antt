-- The dirty bits that a prim can have, by its kind, and those that locators reach.
use Rattle.std.specs.Prelude.{ℕ, if◌then◌else◌, List, [], ◌∷◌, filter}
use Rattle.hd_path.specs.Names.{Name, is_same}
use Rattle.hd_tokens.specs.Locators.{Locator}
use Rattle.hd_tokens.specs.Kinds.{mesh_kind, points_kind, camera_kind, material_kind, point_instancer_kind}
use Rattle.hd_value.specs.declared.groups.Group.{Group}
use Rattle.hd_value.specs.declared.groups.Group.TheVariants.{Points, Topology, Color, Transform, Visibility, Purpose, Binding, Instancer, Instances, MaterialColor}
use Rattle.hd_value.specs.Groups.{locator_of_group}
use Rattle.hd_value.specs.LocatorSets.{touches}
use Rattle.hd_dirty.specs.Bits.{bits_of_groups}

-- the groups of values that are read of a prim of a kind
abbrev pub groups_of : Name → List Group
groups_of kind =
    if is_same kind mesh_kind then Points ∷ Topology ∷ Color ∷ Transform ∷ Visibility ∷ Purpose ∷ Binding ∷ Instancer ∷ []
    else (if is_same kind points_kind then Points ∷ Color ∷ Transform ∷ Visibility ∷ Purpose ∷ Binding ∷ Instancer ∷ []
    else (if is_same kind camera_kind then Transform ∷ []
    else (if is_same kind material_kind then MaterialColor ∷ []
    else (if is_same kind point_instancer_kind then Transform ∷ Visibility ∷ Instancer ∷ Instances ∷ []
    else []))))

-- all bits of a prim of a kind
abbrev pub all_of : Name → ℕ
all_of kind = bits_of_groups (groups_of kind)

-- the bits of a kind whose locator intersects a member of the set
abbrev pub bits_of : Name → List Locator → ℕ
bits_of kind set = bits_of_groups (filter (λ group. touches set (locator_of_group group)) (groups_of kind))
