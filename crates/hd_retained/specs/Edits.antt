-- The layer after an edit, or the refusal of the edit, and the notices of the change.
use Rattle.std.specs.Prelude.{◌≡◌, ◌⊎◌, ℕ, ◌-◌, Bool, not, ◌&&◌, ◌||◌, nat_le, nat_lt, if◌then◌else◌, List, [], ◌∷◌, ◌++◌, length, take, drop, map, Option, Some, None, Result, Ok, Err}
use Rattle.std.specs.List.{list_any}
use Rattle.std.specs.Coded.{Coded, code_by, coded×, coded_ℕ}
use Rattle.std.specs.FinMap.{get, contains_key, insert, remove, retain_keys, len, keys, entries, empty, from_entries}
use Rattle.hd_layer.specs.declared.edit.Edit.{Edit}
use Rattle.hd_layer.specs.declared.edit.Edit.TheVariants.{Define, Set, Clear, Remove, Rename}
use Rattle.hd_layer.specs.declared.limits.Which.TheVariants.{Prims, Depth}
use Rattle.hd_layer.specs.declared.spec.Property.{Property}
use Rattle.hd_layer.specs.Limits.{limit_of}
use Rattle.hd_path.specs.Paths.{Path, is_prefix}
use Rattle.hd_scene.specs.declared.notice.Notice.{Notice}
use Rattle.hd_schema.specs.Places.{locators_of}
use Rattle.hd_scene.specs.declared.notice.Notice.TheVariants.{Added, Removed, Dirtied, Renamed}
use Rattle.hd_retained.specs.declared.fault.EditFault.{EditFault}
use Rattle.hd_retained.specs.declared.fault.EditFault.TheVariants.{NoPrim, PrimThere, UnderItself, Limit, NoMemory}
use Rattle.hd_retained.specs.Layers.{LayerPrim, Layer, layer_code}
use Rattle.std.proofs.Common.{refl}
use Rattle.hd_path.specs.Names.{Name}
use Rattle.hd_tokens.specs.Locators.{Locator}

-- a layer as an index, which counts the calls of `prim`
pub record State : Type 0 where
  pub layer : Layer
  pub pulls : ℕ

abbrev pub state_code : Coded State
state_code = code_by (Layer × ℕ) (coded× layer_code coded_ℕ) (λ s. (s.layer, s.pulls)) (λ p. record { layer = p.0; pulls = p.1 }) (λ _. refl)

-- whether a prim may be at the path: its parent is the root, or is there
abbrev pub has_parent : Layer → Path → Bool
has_parent layer path = nat_le (length path) 1 || contains_key layer (take (length path - 1) path)

-- one more prim than a layer may have
abbrev pub is_full_for : Layer → Path → Bool
is_full_for layer path = not (contains_key layer path) && nat_le (limit_of Prims) (len layer)

-- a prim of the kind, without properties. What is below it stays
abbrev pub after_define : Layer → Name → Path → Result Layer EditFault
after_define layer kind path =
    if not (has_parent layer path) then Err NoPrim
    else (if is_full_for layer path then Err (Limit Prims)
    else Ok (insert layer path (record { kind = kind; properties = empty })))

-- the layer with another prim in place of the one that is there
abbrev pub change_prim : (LayerPrim → LayerPrim) → Layer → Path → Option LayerPrim → Result Layer EditFault
change_prim change layer path None = Err NoPrim
change_prim change layer path (Some p) = Ok (insert layer path (change p))

abbrev pub with_value : Property → LayerPrim → LayerPrim
with_value property p = record { kind = p.kind; properties = insert p.properties property.name property.value }

abbrev pub without_value : Name → LayerPrim → LayerPrim
without_value name p = record { kind = p.kind; properties = remove p.properties name }

-- the property has the value
abbrev pub after_set : Layer → Path → Property → Result Layer EditFault
after_set layer path property = change_prim (with_value property) layer path (get layer path)

-- no value is authored by this name
abbrev pub after_clear : Layer → Path → Name → Result Layer EditFault
after_clear layer path name = change_prim (without_value name) layer path (get layer path)

-- what is at and below the path is gone
abbrev pub after_remove : Layer → Path → Result Layer EditFault
after_remove layer path =
    if contains_key layer path then Ok (retain_keys layer (λ p. not (is_prefix path p)))
    else Err NoPrim

-- a path with the second prefix in place of the first one, where it begins with that
abbrev pub moved_path : (from to path : Path) → Path
moved_path from to path = if is_prefix from path then to ++ drop (length from) path else path

-- whether the path would have too many names
abbrev pub is_moved_too_deep : (from to path : Path) → Bool
is_moved_too_deep from to path = is_prefix from path && nat_lt (limit_of Depth) (length (moved_path from to path))

abbrev pub moved_prim : (from to : Path) → Path × LayerPrim → Path × LayerPrim
moved_prim from to e = (moved_path from to e.0, e.1)

-- what is at and below the first path is at and below the second one
abbrev pub after_rename : Layer → (from to : Path) → Result Layer EditFault
after_rename layer from to =
    if not (contains_key layer from) then Err NoPrim
    else (if is_prefix from to then Err UnderItself
    else (if not (has_parent layer to) then Err NoPrim
    else (if contains_key layer to then Err PrimThere
    else (if list_any (is_moved_too_deep from to) (keys layer) then Err (Limit Depth)
    else Ok (from_entries (map (moved_prim from to) (entries layer)))))))

-- the property has the value; one that is not used needs its prim, and changes nothing
abbrev pub after_set_if_used : Layer → Path → Option Property → Result Layer EditFault
after_set_if_used layer path (Some property) = after_set layer path property
after_set_if_used layer path None = if contains_key layer path then Ok layer else Err NoPrim

-- the layer after an edit, or the refusal
abbrev pub edit_layer : Layer → Edit → Result Layer EditFault
edit_layer layer (Define kind path) = after_define layer kind path
edit_layer layer (Set path property) = after_set_if_used layer path property
edit_layer layer (Clear path name) = after_clear layer path name
edit_layer layer (Remove path) = after_remove layer path
edit_layer layer (Rename from to) = after_rename layer from to

-- the edit is refused so, or memory ran out
abbrev pub IsRefusal : {T : Type 0} → Result T EditFault → EditFault → Type 0
IsRefusal expected fault = (fault ≡ NoMemory) ⊎ (expected ≡ Err fault)

-- that values at these locators may have changed, where there are any
abbrev pub dirtied_notices : Path → List Locator → List Notice
dirtied_notices path [] = []
dirtied_notices path (at ∷ more) = Dirtied path (at ∷ more) ∷ []

-- the notices of an edit that is done
abbrev pub notices_of_edit : Edit → List Notice
notices_of_edit (Define kind path) = Added path kind ∷ []
notices_of_edit (Set path (Some property)) = Dirtied path (locators_of property.name) ∷ []
notices_of_edit (Set path None) = []
notices_of_edit (Clear path name) = dirtied_notices path (locators_of name)
notices_of_edit (Remove path) = Removed path ∷ []
notices_of_edit (Rename from to) = Renamed from to ∷ []
