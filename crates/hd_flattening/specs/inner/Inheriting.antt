-- What prims take from those above them.
use Rattle.std.specs.Prelude.{◌≡◌, ◌==◌, List, ◌∷◌, length, unwrap_or}
use Rattle.std.specs.FinMap.{empty}
use Rattle.hd_value.specs.Maps.{Map}
use Rattle.hd_scene.specs.declared.prims.Primitive.{Primitive}
use Rattle.hd_flattening.specs.declared.inherited.Inherited.{Inherited}
use Rattle.hd_flattening.specs.Flat.{flat_matrix, is_visible, nearest, authored_purpose, authored_binding, own_single}

-- what a prim takes from its ancestors, of which the nearest comes first
abbrev pub inherited_from : List Map → Inherited
inherited_from above = record {
  is_root = length above == 0;
  matrix = flat_matrix above;
  is_visible = is_visible above;
  purpose = nearest authored_purpose above;
  binding = nearest authored_binding above;
  color = nearest own_single above;
}

-- what the prim and its ancestors give, where the ancestors give what is inherited
abbrev pub IsFlat : {A : Type 0} → (Map → List Map → A) → (prim : Map) → Inherited → A → Type 0
IsFlat flat prim inherited value = (above : List Map) → inherited ≡ inherited_from above → value ≡ flat prim above

-- the same of what the whole list gives
abbrev pub IsFlatOf : {A : Type 0} → (List Map → A) → (prim : Map) → Inherited → A → Type 0
IsFlatOf flat = IsFlat (λ prim above. flat (prim ∷ above))

-- the values of what is at a path
abbrev pub prim_values : Primitive → Map
prim_values prim = unwrap_or prim.values empty
