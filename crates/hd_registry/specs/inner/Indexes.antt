-- The places of contents by their digests.
use Rattle.std.specs.Prelude.{◌≡◌, ℕ, Bool, true, false, List, Option, Some, None, nat_eq}
use Rattle.std.specs.List.{list_any}
use Rattle.std.specs.declared.alloc.Global.{Global}
use Rattle.std.specs.declared.hash.FoldHasher.{FoldHasher}
use Rattle.std.specs.declared.hash.BuildHasherDefault.{BuildHasherDefault}
use Rattle.std.specs.declared.vec.Vec.{Vec}
use Rattle.std.specs.HashMap.{get, HashMap}
use Rattle.hd_registry.specs.Entries.{Entries, content_at}

-- the places of a digest
abbrev pub Index : Type 0
Index = HashMap ℕ (Vec ℕ Global) (BuildHasherDefault FoldHasher)

-- whether a place is among some
abbrev pub is_among : List ℕ → ℕ → Bool
is_among places place = list_any (λ p. nat_eq p place) places

abbrev pub is_among_those : Option (Vec ℕ Global) → ℕ → Bool
is_among_those None place = false
is_among_those (Some places) place = is_among places.items place

-- whether a place is among those of the digest
abbrev pub is_found : Index → ℕ → ℕ → Bool
is_found index digest place = is_among_those (get nat_eq index digest) place

-- each content is found under its digest
abbrev pub IsIndexed : {C : Type 0} → (C → ℕ) → Entries C → Index → Type 0
IsIndexed {C} digest_of entries index = (place : ℕ) (content : C) → content_at entries place ≡ Some content → is_found index (digest_of content) place ≡ true
