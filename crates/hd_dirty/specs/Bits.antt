-- A set of dirty bits is a number, in which each group of values that change together has a bit.
use Rattle.std.specs.Prelude.{ℕ, Bool, ◌==◌, List, [], ◌∷◌, codes}
use Rattle.std.specs.Int.RustNames.{bit_and, bit_or}
use Rattle.hd_value.specs.declared.groups.Group.{Group}
use Rattle.hd_value.specs.declared.groups.Group.TheVariants.{Points, Topology, Color, Transform, Visibility, Purpose, Binding, Instancer, Instances, MaterialColor}
use Rattle.hd_dirty.specs.declared.bits.Bits.{Bits}

-- the number of a set
abbrev pub number_of : Bits → ℕ
number_of bits = bits.0

-- the bit of a group
abbrev pub bit_of_group : Group → ℕ
bit_of_group Points = 1
bit_of_group Topology = 2
bit_of_group Color = 4
bit_of_group Transform = 8
bit_of_group Visibility = 16
bit_of_group Purpose = 32
bit_of_group Binding = 64
bit_of_group Instancer = 128
bit_of_group Instances = 256
bit_of_group MaterialColor = 512

-- whether the first set has every bit of the second
abbrev pub contains : ℕ → ℕ → Bool
contains bits others = bit_and bits others == others

-- whether the bit of a group is set
abbrev pub has : ℕ → Group → Bool
has bits group = contains bits (bit_of_group group)

-- the bits of some groups
abbrev pub bits_of_groups : List Group → ℕ
bits_of_groups [] = 0
bits_of_groups (group ∷ groups) = bit_or (bit_of_group group) (bits_of_groups groups)

-- the bits by name
abbrev pub flag_table : List (List ℕ × ℕ)
flag_table =
    (codes "Points", bit_of_group Points)
    ∷ (codes "Topology", bit_of_group Topology)
    ∷ (codes "Color", bit_of_group Color)
    ∷ (codes "Transform", bit_of_group Transform)
    ∷ (codes "Visibility", bit_of_group Visibility)
    ∷ (codes "Purpose", bit_of_group Purpose)
    ∷ (codes "Binding", bit_of_group Binding)
    ∷ (codes "Instancer", bit_of_group Instancer)
    ∷ (codes "Instances", bit_of_group Instances)
    ∷ (codes "MaterialColor", bit_of_group MaterialColor)
    ∷ []
