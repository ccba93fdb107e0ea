-- Where a value may be put.
use Rattle.std.specs.Prelude.{◌≢◌, [], Option, Some, None}
use Rattle.hd_tokens.specs.Locators.{Locator}
use Rattle.hd_value.specs.Maps.{Map, IsFree}

-- where there is a locator, it has a token, and a value may be put there
abbrev pub IsFreeAt : Map → Option Locator → Type 0
IsFreeAt m None = Unit {0}
IsFreeAt m (Some at) = (at ≢ []) × IsFree m at
