-- How long the locators of a container are.
use Rattle.std.specs.Prelude.{ℕ, max, List, [], ◌∷◌, length}
use Rattle.std.specs.FinMap.{entries}
use Rattle.hd_tokens.specs.Locators.{Locator}
use Rattle.hd_value.specs.declared.value.Value.{Value}
use Rattle.hd_value.specs.Maps.{Map}

abbrev pub longest : List (Locator × Value) → ℕ
longest [] = 0
longest (e ∷ es) = max (length e.0) (longest es)

-- the length of the longest locator
abbrev pub depth : Map → ℕ
depth m = longest (entries m)
