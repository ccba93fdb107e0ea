-- A container is a finite map from locators to values.
use Rattle.std.specs.Prelude.{◌≡◌, ◌≢◌, not, if◌then◌else◌, List, [], ◌∷◌, ◌++◌, Option, Some, None, IsTrue}
use Rattle.std.specs.List.{filter_map}
use Rattle.std.specs.Coded.{Coded, coded_ℕ, coded_list}
use Rattle.std.specs.Cmp.Lexicographic.{slice_cmp}
use Rattle.std.specs.Ordering.{nat_cmp}
use Rattle.std.specs.FinMap.{FinMap, code, get, keys, entries, insert, retain_keys, from_entries}
use Rattle.hd_tokens.specs.Locators.{Locator}
use Rattle.hd_value.specs.declared.value.Value.{Value}
use Rattle.hd_value.specs.contracts.value.Value as value
use Rattle.hd_path.specs.Paths.{is_prefix}
use Rattle.hd_path.specs.Names.{is_same}
use Rattle.hd_value.specs.LocatorSets.{touches}

abbrev pub Map : Type 0
Map = FinMap (slice_cmp (slice_cmp nat_cmp)) Value

abbrev pub map_code : Coded Map
map_code = code (coded_list (coded_list coded_ℕ)) value.the_row.coded

-- what is left of a locator that goes on after another one
abbrev pub suffix_after : Locator → Locator → Option Locator
suffix_after [] [] = None
suffix_after [] (y ∷ whole) = Some (y ∷ whole)
suffix_after (x ∷ front) [] = None
suffix_after (x ∷ front) (y ∷ whole) = if is_same x y then suffix_after front whole else None

-- a value at what is left of its locator
abbrev pub value_at_suffix : Option Locator → Value → Option (Locator × Value)
value_at_suffix None value = None
value_at_suffix (Some rest) value = Some (rest, value)

-- the values below a locator, each at what is left of its own
abbrev pub below : Map → Locator → Map
below m at = from_entries (filter_map (λ e. value_at_suffix (suffix_after at e.0) e.1) (entries m))

-- the map with a value at a locator, in place of what was at or below it
abbrev pub set_at : Map → Locator → Value → Map
set_at m at value = insert (retain_keys m (λ key. not (is_prefix at key))) at value

-- a key that is a prefix of another one is that one
abbrev pub IsPrefixFree : Map → Type 0
IsPrefixFree m = (a b : Locator) → get m a ≢ None → get m b ≢ None → IsTrue (is_prefix a b) → a ≡ b

-- no value is above the locator
abbrev pub IsFree : Map → Locator → Type 0
IsFree m at = (front rest : Locator) → at ≡ front ++ rest → rest ≢ [] → get m front ≡ None

-- at a locator, the value of the first map that has one at a locator that intersects it
abbrev pub overlaid_at : List Map → Locator → Option Value
overlaid_at [] at = None
overlaid_at (m ∷ rest) at = if touches (keys m) at then get m at else overlaid_at rest at
