-- A locator is the list of its tokens, from the outermost in.
use Rattle.std.specs.Prelude.{Bool, ◌||◌}
use Rattle.hd_path.specs.Names.{Name}
use Rattle.hd_path.specs.Paths.{is_prefix}
use Rattle.hd_tokens.specs.Locators.{Locator}
use Rattle.hd_value.specs.declared.element.Text.{Text}
use Rattle.hd_value.specs.declared.element.Text.TheVariants.{Fixed, Shared}

-- whether one of the two begins with the other
abbrev pub intersects : Locator → Locator → Bool
intersects a b = is_prefix a b || is_prefix b a

-- the bytes of a token's text
abbrev pub bytes_of : Text → Name
bytes_of (Fixed text) = text.now
bytes_of (Shared text) = text
