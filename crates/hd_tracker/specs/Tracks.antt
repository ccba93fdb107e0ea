-- What is kept of prims by path: their kinds, and their dirty bits.
use Rattle.std.specs.Prelude.{ℕ, Bool, false, true, not, ◌==◌, if◌then◌else◌, List, [], ◌∷◌, Option, Some, None, refl}
use Rattle.std.specs.Int.RustNames.{bit_or}
use Rattle.std.specs.Option.{option_map}
use Rattle.std.specs.Coded.{Coded, code_by, coded×, coded_ℕ, coded_list}
use Rattle.std.specs.FinMap.{FinMap, code}
use Rattle.hd_path.specs.Names.{Name}
use Rattle.hd_path.specs.Paths.{Path, path_cmp, is_prefix}
use Rattle.hd_tokens.specs.Locators.{Locator}
use Rattle.hd_dirty.specs.declared.bits.Bits.{Bits}
use Rattle.hd_dirty.specs.Bits.{number_of}
use Rattle.hd_dirty.specs.Kinds.{all_of, bits_of}
use Rattle.hd_scene.specs.Tells.{is_same_path}
use Rattle.hd_scene.specs.declared.notice.Notice.{Notice}
use Rattle.hd_scene.specs.declared.notice.Notice.TheVariants.{Added, Removed, Dirtied, Renamed}
use Rattle.hd_tracker.specs.declared.tracker.Tracked.{Tracked}

-- what is kept, by path
abbrev pub Tracks : Type 0
Tracks = FinMap path_cmp Tracked

-- the set of bits with this number
abbrev pub bits_numbered : ℕ → Bits
bits_numbered number = record { 0 = number }

abbrev pub tracked_code : Coded Tracked
tracked_code = code_by (Name × ℕ) (coded× (coded_list coded_ℕ) coded_ℕ) (λ t. (t.kind, number_of t.bits)) (λ p. record { kind = p.0; bits = bits_numbered p.1 }) (λ _. refl)

abbrev pub tracks_code : Coded Tracks
tracks_code = code (coded_list (coded_list coded_ℕ)) tracked_code

-- whether prims of a kind have bits
abbrev pub has_bits : Name → Bool
has_bits kind = not (all_of kind == 0)

-- what is kept of a new prim of a kind: all its bits, and nothing where the kind has none
abbrev pub all_dirty : Name → Option Tracked
all_dirty kind = if has_bits kind then Some (record { kind = kind; bits = bits_numbered (all_of kind) }) else None

-- some bits more
abbrev pub with_bits : ℕ → Tracked → Tracked
with_bits bits t = record { kind = t.kind; bits = bits_numbered (bit_or (number_of t.bits) bits) }

-- the bits more that the locators of a set reach
abbrev pub with_bits_of : List Locator → Tracked → Tracked
with_bits_of set t = with_bits (bits_of t.kind set) t

-- no bits
abbrev pub without_bits : Tracked → Tracked
without_bits t = record { kind = t.kind; bits = bits_numbered 0 }

-- the bits at a path, and none where nothing is kept
abbrev pub bits_in : Option Tracked → ℕ
bits_in None = 0
bits_in (Some t) = number_of t.bits

-- what is kept of p after bits were marked at a path, where it was `old` before
abbrev pub marked_by : Path → ℕ → (p : Path) → Option Tracked → Option Tracked
marked_by path bits p old = if is_same_path path p then option_map (with_bits bits) old else old

-- what is kept of p after one notice, where it was `old` before. A renaming is never given
abbrev pub tracked_by : Notice → (p : Path) → Option Tracked → Option Tracked
tracked_by (Added path kind) p old = if is_same_path path p then all_dirty kind else old
tracked_by (Removed path) p old = if is_prefix path p then None else old
tracked_by (Dirtied path set) p old = if is_same_path path p then option_map (with_bits_of set) old else old
tracked_by (Renamed from to) p old = old

-- and after all of them, in order
abbrev pub tracked_after : List Notice → (p : Path) → Option Tracked → Option Tracked
tracked_after [] p old = old
tracked_after (n ∷ ns) p old = tracked_after ns p (tracked_by n p old)

-- whether a notice is a renaming
abbrev pub is_renaming : Notice → Bool
is_renaming (Added path kind) = false
is_renaming (Removed path) = false
is_renaming (Dirtied path set) = false
is_renaming (Renamed from to) = true
