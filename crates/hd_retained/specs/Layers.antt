-- A layer is a finite map from paths to prims. A prim has a kind, and values by the names of its properties.
use Rattle.std.specs.Prelude.{◌≡◌, ◌↔◌, List, All, map, length, Option, Some, IsSome, IsTrue, Contains, refl}
use Rattle.std.specs.List.{fold}
use Rattle.std.specs.List.Sorted.{IsStrictlySortedBy}
use Rattle.std.specs.Option.{option_map}
use Rattle.std.specs.Coded.{Coded, code_by, coded×, coded_ℕ, coded_list}
use Rattle.std.specs.Cmp.Lexicographic.{slice_cmp}
use Rattle.std.specs.Ordering.{nat_cmp, ordering_then}
use Rattle.std.specs.declared.cmp.Ordering.{Ordering}
use Rattle.std.specs.FinMap.{FinMap, code, get, entries, empty, from_entries}
use Rattle.hd_layer.specs.declared.spec.RawValue.{RawValue}
use Rattle.hd_layer.specs.contracts.spec.RawValue as raw
use Rattle.hd_layer.specs.declared.spec.Property.{Property}
use Rattle.hd_layer.specs.declared.spec.PrimSpec.{PrimSpec}
use Rattle.hd_layer.specs.declared.spec.LayerSpec.{LayerSpec}
use Rattle.hd_layer.specs.WellFormed.{is_property}
use Rattle.hd_value.specs.Maps.{Map}
use Rattle.hd_schema.specs.Authored.{with_property}
use Rattle.hd_scene.specs.declared.prims.Entry.{Entry}
use Rattle.hd_path.specs.Paths.{Path, path_cmp, is_prefix}
use Rattle.hd_scene.specs.Scenes.{Scene}
use Rattle.hd_path.specs.Names.{Name}

-- the values of a prim's properties, by their names
abbrev pub Properties : Type 0
Properties = FinMap (slice_cmp nat_cmp) RawValue

-- a prim of a layer, which an index stores as a `StoredPrim`
pub record LayerPrim : Type 0 where
  pub kind : Name
  pub properties : Properties

abbrev pub Layer : Type 0
Layer = FinMap path_cmp LayerPrim

abbrev pub prim_code : Coded LayerPrim
prim_code =
    code_by (Name × Properties) (coded× (coded_list coded_ℕ) (code (coded_list coded_ℕ) raw.the_row.coded)) (λ p. (p.kind, p.properties)) (λ p. record { kind = p.0; properties = p.1 }) (λ _. refl)

abbrev pub layer_code : Coded Layer
layer_code = code (coded_list (coded_list coded_ℕ)) prim_code

abbrev pub named_value : Property → Name × RawValue
named_value p = (p.name, p.value)

-- the properties of a list, by their names
abbrev pub properties_of : List Property → Properties
properties_of properties = from_entries (map named_value properties)

-- a prim as a text spells it
abbrev pub spelled_prim : PrimSpec → LayerPrim
spelled_prim p = record { kind = p.kind; properties = properties_of p.properties }

abbrev pub prim_at_path : PrimSpec → Path × LayerPrim
prim_at_path p = (p.path, spelled_prim p)

-- the layer that a text spells
abbrev pub layer_of : LayerSpec → Layer
layer_of l = from_entries (map prim_at_path l.prims)

abbrev pub property_of : Name × RawValue → Property
property_of e = record { name = e.0; value = e.1 }

-- the properties as a list, in the order of their names
abbrev pub property_list : Properties → List Property
property_list properties = map property_of (entries properties)

-- the values that the properties author, each at its locator
abbrev pub container_of : Properties → Map
container_of properties = fold with_property empty (property_list properties)

-- a prim as a scene has it
abbrev pub entry_of : LayerPrim → Entry
entry_of p = record { kind = p.kind; values = container_of p.properties }

abbrev pub entry_at_path : Path × LayerPrim → Path × Entry
entry_at_path e = (e.0, entry_of e.1)

-- the scene of a layer has a prim wherever the layer has one
abbrev pub scene_of : Layer → Scene
scene_of layer = from_entries (map entry_at_path (entries layer))

-- the kind of the prim at a path, if there is one
abbrev pub kind_in : Layer → Path → Option Name
kind_in layer path = option_map (λ (p : LayerPrim). p.kind) (get layer path)

-- each property of each prim is a used one whose value has its form
abbrev pub AreUsed : Layer → Type 0
AreUsed layer = (path : Path) (p : LayerPrim) → get layer path ≡ Some p → All (λ q. IsTrue (is_property q)) (property_list p.properties)

-- fewer names first, and paths of as many names in their order
abbrev pub depth_cmp : Path → Path → Ordering
depth_cmp a b = ordering_then (nat_cmp (length a) (length b)) (path_cmp a b)

-- the paths of the prims at and below a path, each once and in that order
pub record ArePathsFrom (layer : Layer) (path : Path) (paths : List Path) : Type 0 where
  pub ascending : IsStrictlySortedBy depth_cmp paths
  pub there : (q : Path) → Contains paths q ↔ (IsTrue (is_prefix path q) × IsSome (get layer q))
