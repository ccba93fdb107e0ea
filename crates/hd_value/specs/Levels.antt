-- A container is kept as levels: the tokens of one level in byte order, each with a value or a further container.
use Rattle.std.specs.Prelude.{List, [], ◌∷◌, ◌++◌, map, Option, Some, None}
use Rattle.std.specs.declared.sync.Arc.{Arc}
use Rattle.std.specs.declared.vec.Vec.{Vec}
use Rattle.std.specs.declared.alloc.Global.{Global}
use Rattle.std.specs.FinMap.{entries, from_entries}
use Rattle.hd_path.specs.Names.{Name}
use Rattle.hd_tokens.specs.Locators.{Locator}
use Rattle.hd_value.specs.declared.value.Value.{Value}
use Rattle.hd_value.specs.declared.container.Entry.{Entry}
use Rattle.hd_value.specs.declared.container.Source.{Source}
use Rattle.hd_value.specs.declared.container.Source.TheVariants.{Inner, Leaf}
use Rattle.hd_value.specs.Maps.{Map}

-- the values of a source that is at a token
abbrev pub values_at : Name → Source → List (Locator × Value)
values_at token (Leaf value) = (token ∷ [], value) ∷ []
values_at token (Inner inner) = map (λ e. (token ∷ e.0, e.1)) (entries inner)

-- the values of a level
abbrev pub values_of : List Entry → List (Locator × Value)
values_of [] = []
values_of (e ∷ es) = values_at e.token e.source ++ values_of es

-- the entries that are held, where nothing is the empty level
abbrev pub entries_in : Option (Arc (Vec Entry Global) Global) → List Entry
entries_in None = []
entries_in (Some level) = level.value.items

abbrev pub level_map : Option (Arc (Vec Entry Global) Global) → Map
level_map level = from_entries (values_of (entries_in level))
