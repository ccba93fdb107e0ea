-- A shared list, seen as the list of its items.
use Rattle.std.specs.Prelude.{List, [], Option, Some, None}
use Rattle.std.specs.declared.sync.Arc.{Arc}
use Rattle.std.specs.declared.vec.Vec.{Vec}
use Rattle.std.specs.declared.alloc.Global.{Global}

-- what a list holds, where nothing is the empty one
abbrev pub shared_items : {T : Type 0} → Option (Arc (Vec T Global) Global) → List T
shared_items None = []
shared_items (Some items) = items.value.items
