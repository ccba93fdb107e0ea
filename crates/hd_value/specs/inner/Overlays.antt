-- How one level lies over another.
use Rattle.std.specs.Prelude.{◌≡◌, not, List, ◌++◌, Option, Some, None}
use Rattle.std.specs.FinMap.{keys, entries, retain_keys, from_entries}
use Rattle.hd_path.specs.Names.{Name}
use Rattle.hd_value.specs.declared.container.Entry.{Entry}
use Rattle.hd_value.specs.declared.container.Source.{Source}
use Rattle.hd_value.specs.declared.container.Source.TheVariants.{Inner, Leaf}
use Rattle.hd_value.specs.LocatorSets.{touches}
use Rattle.hd_value.specs.inner.Entries.{source_at, AreEntries}
use Rattle.hd_value.specs.Maps.{Map}

-- the values of the first map, and those of the second at locators that intersect none of the first
abbrev pub overlaid_on : Map → Map → Map
overlaid_on m n = from_entries (entries m ++ entries (retain_keys n (λ key. not (touches (keys m) key))))

-- a source over another one at the same token
abbrev pub merged_source : Source → Source → Source
merged_source (Inner m) (Inner n) = Inner (overlaid_on m n)
merged_source (Inner m) (Leaf v) = Inner m
merged_source (Leaf v) s = Leaf v

-- what is at a token of two levels, the first over the second
abbrev pub merged_at : Option Source → Option Source → Option Source
merged_at None p = p
merged_at (Some s) None = Some s
merged_at (Some s) (Some r) = Some (merged_source s r)

-- the entries of one level over those of another
pub record IsOver (over under all : List Entry) : Type 0 where
  pub entries : AreEntries all
  pub at_token : (token : Name) → source_at token all ≡ merged_at (source_at token over) (source_at token under)
