-- What a job wants kept.
use Rattle.std.specs.Prelude.{List, [], ◌∷◌, Option}
use Rattle.std.specs.Option.{option_map}
use Rattle.std.specs.Arc.{arc_value}
use Rattle.hd_registry.specs.declared.staging.Wants.{Wants}

-- the contents that are wanted, of each of the three kinds
abbrev pub contents_wanted : {C : Type 0} → Wants C → List (Option C)
contents_wanted wants = option_map arc_value wants.first ∷ option_map arc_value wants.second ∷ option_map arc_value wants.third ∷ []
