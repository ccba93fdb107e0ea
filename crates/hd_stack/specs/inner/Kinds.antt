-- The kind that several layers have at a path.
use Rattle.std.specs.Prelude.{Bool, true, false, if◌then◌else◌, [], ◌∷◌, Option, Some, None}
use Rattle.std.specs.Option.{option_or}
use Rattle.hd_path.specs.Names.{Name}

-- a kind that is not empty
abbrev pub is_named : Option Name → Bool
is_named None = false
is_named (Some []) = false
is_named (Some (letter ∷ kind)) = true

-- the kind of a prim where another layer has a weaker one: the first that is not empty, or else the empty one of either
abbrev pub kind_over : (strong weak : Option Name) → Option Name
kind_over strong weak = if is_named strong then strong else option_or weak strong
