-- The entries of one level of a container, in the byte order of their tokens.
use Rattle.std.specs.Prelude.{◌≡◌, ◌≢◌, ℕ, ◌<◌, ◌≤◌, if◌then◌else◌, List, [], ◌∷◌, ◌++◌, length, filter, slice_index_or, Option, Some, None}
use Rattle.std.specs.List.{AllWithin}
use Rattle.std.specs.Ordering.{is_lt, is_gt}
use Rattle.std.specs.declared.cmp.Ordering.TheVariants.{Less, Greater}
use Rattle.std.specs.declared.sync.Arc.{Arc}
use Rattle.std.specs.declared.vec.Vec.{Vec}
use Rattle.std.specs.declared.alloc.Global.{Global}
use Rattle.std.specs.FinMap.{empty, get}
use Rattle.hd_path.specs.Names.{Name, is_same, byte_order}
use Rattle.hd_tokens.specs.Locators.{Locator}
use Rattle.hd_value.specs.declared.value.Value.{Value}
use Rattle.hd_value.specs.declared.container.Entry.{Entry}
use Rattle.hd_value.specs.declared.container.Source.{Source}
use Rattle.hd_value.specs.declared.container.Source.TheVariants.{Inner, Leaf}
use Rattle.hd_value.specs.Levels.{entries_in}
use Rattle.hd_value.specs.Maps.{Map, set_at, IsPrefixFree}

-- the source of the first entry with this token
abbrev pub source_at : Name → List Entry → Option Source
source_at token [] = None
source_at token (e ∷ es) = if is_same token e.token then Some e.source else source_at token es

-- the entry of a token and its source
abbrev pub entry_at : Name → Source → Entry
entry_at token source = record { token = token; source = source }

-- the entries with a source in place of what was at the token, between the entries before it and those after it
abbrev pub entries_with : Name → Source → List Entry → List Entry
entries_with token source es = filter (λ e. is_lt (byte_order e.token token)) es ++ entry_at token source ∷ filter (λ e. is_gt (byte_order e.token token)) es

-- the values below a token, of which a leaf there has none
abbrev pub map_of_source : Option Source → Map
map_of_source (Some (Inner inner)) = inner
map_of_source (Some (Leaf value)) = empty
map_of_source None = empty

-- what was at a token, after a value was put at what is left of the value's locator
abbrev pub source_with : Option Source → Locator → Value → Source
source_with old [] value = Leaf value
source_with old (token ∷ at) value = Inner (set_at (map_of_source old) (token ∷ at) value)

-- the entry with this number has the token
pub record IsPlace (token : Name) (es : List Entry) (i : ℕ) : Type 0 where
  pub in_range : i < length es
  pub has_token : (d : Entry) → (slice_index_or es i d).token ≡ token

-- an entry with the token would get this number: the tokens before are below it, and the others above
pub record IsGap (token : Name) (es : List Entry) (i : ℕ) : Type 0 where
  pub in_range : i ≤ length es
  pub below : AllWithin (λ e. byte_order e.token token ≡ Less) es 0 i
  pub above : AllWithin (λ e. byte_order e.token token ≡ Greater) es i (length es)

-- a container inside another one has a value, none at the empty locator, and none above another
pub record IsInner (inner : Map) : Type 0 where
  pub filled : inner ≢ empty
  pub rootless : get inner [] ≡ None
  pub prefix_free : IsPrefixFree inner

abbrev pub IsFilled : Source → Type 0
IsFilled (Leaf value) = Unit {0}
IsFilled (Inner inner) = IsInner inner

-- the token comes before those of the entries
abbrev pub IsBefore : Name → List Entry → Type 0
IsBefore token [] = Unit {0}
IsBefore token (e ∷ es) = (byte_order token e.token ≡ Less) × IsBefore token es

-- the tokens ascend, and no source is empty
abbrev pub AreEntries : List Entry → Type 0
AreEntries [] = Unit {0}
AreEntries (e ∷ es) = IsFilled e.source × IsBefore e.token es × AreEntries es

abbrev pub IsLevel : Option (Arc (Vec Entry Global) Global) → Type 0
IsLevel level = AreEntries (entries_in level)
