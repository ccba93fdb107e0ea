-- Edits that a layer may be handed.
use Rattle.std.specs.Prelude.{Bool, true, ◌&&◌, Option, Some, None}
use Rattle.hd_layer.specs.declared.edit.Edit.{Edit}
use Rattle.hd_layer.specs.declared.edit.Edit.TheVariants.{Define, Set, Clear, Remove, Rename}
use Rattle.hd_layer.specs.declared.spec.Property.{Property}
use Rattle.hd_layer.specs.WellFormed.{is_property, is_below_root}

-- no property, or a used one whose value has its form
abbrev pub may_be_set : Option Property → Bool
may_be_set None = true
may_be_set (Some property) = is_property property

-- none of its paths is the root, and a property in it is well formed
abbrev pub is_edit : Edit → Bool
is_edit (Define kind path) = is_below_root path
is_edit (Set path property) = is_below_root path && may_be_set property
is_edit (Clear path name) = is_below_root path
is_edit (Remove path) = is_below_root path
is_edit (Rename from to) = is_below_root from && is_below_root to
