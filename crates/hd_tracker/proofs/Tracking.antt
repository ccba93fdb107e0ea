-- Laws of what is tracked.
use Rattle.std.proofs.Common.{◌≡◌, ℕ, Bool, true, false, max, min, cond, List, [], ◌∷◌, Option, Some, None, IfSome, eq-eqb, refl, sym, ◌∙◌, ap, arith}
use Rattle.std.proofs.lemmas.Bool.Decides.{Decides-eqb}
use Rattle.std.proofs.lemmas.List.Elements.{recursion_from_All}
use Rattle.std.proofs.lemmas.Nat.Bits.{same_from_bits, bit_at_or, bit_at_and}
use Rattle.std.specs.Int.{bit_at}
use Rattle.std.specs.List.{AllByRecursion}
use Rattle.std.specs.Option.{option_map}
use Rattle.std.specs.Int.RustNames.{bit_and, bit_or}
use Rattle.hd_path.proofs.Logic.{true_is_not}
use Rattle.hd_path.specs.Names.{Name}
use Rattle.hd_path.specs.Paths.{Path, is_prefix}
use Rattle.hd_tokens.specs.Locators.{Locator}
use Rattle.hd_dirty.specs.Bits.{contains, number_of}
use Rattle.hd_dirty.specs.Kinds.{all_of, bits_of}
use Rattle.hd_dirty.proofs.Reaching.{within_all}
use Rattle.hd_scene.specs.Scenes.{kind_at}
use Rattle.hd_scene.specs.Tells.{is_same_path, kind_by, kind_after}
use Rattle.hd_scene.specs.declared.notice.Notice.{Notice}
use Rattle.hd_scene.specs.declared.notice.Notice.TheVariants.{Added, Removed, Dirtied, Renamed}
use Rattle.hd_tracker.specs.declared.tracker.Tracked.{Tracked}
use Rattle.hd_tracker.specs.Tracks.{bits_numbered, has_bits, all_dirty, with_bits_of, tracked_by, tracked_after, is_renaming}
use Rattle.hd_tracker.specs.Laws.{TrackingComposes, IsSound, StaysSound, kind_in, kind_with_bits, KeepsKinds, FollowsKinds}

pub tracking_composes : TrackingComposes
tracking_composes [] second p old = refl
tracking_composes (n ∷ ns) second p old = tracking_composes ns second p (tracked_by n p old)

-- a set has each of its own bits
and_itself : (n : ℕ) → bit_and n n ≡ n
and_itself n = same_from_bits (bit_and n n) n (λ i. bit_at_and n n i ∙ one (bit_at n i))
  where
    one : (k : ℕ) → min k k ≡ k
    one k = omega arith

-- a set that has all bits of two others has those of their union
both_within : (all one other : ℕ) → contains all one ≡ true → contains all other ≡ true → contains all (bit_or one other) ≡ true
both_within all one other p q = eq-eqb _ _ (same_from_bits (bit_and all (bit_or one other)) (bit_or one other) (λ i.
    let first : min (bit_at all i) (bit_at one i) ≡ bit_at one i = sym (bit_at_and all one i) ∙ ap (λ (n : ℕ). bit_at n i) ((Decides-eqb _ _).0 p) in
    let second : min (bit_at all i) (bit_at other i) ≡ bit_at other i = sym (bit_at_and all other i) ∙ ap (λ (n : ℕ). bit_at n i) ((Decides-eqb _ _).0 q) in
    bit_at_and all (bit_or one other) i
    ∙ ap (min (bit_at all i)) (bit_at_or one other i)
    ∙ least (bit_at all i) (bit_at one i) (bit_at other i) first second
    ∙ sym (bit_at_or one other i)))
  where
    least : (a b c : ℕ) → min a b ≡ b → min a c ≡ c → min a (max b c) ≡ max b c
    least a b c e f = omega (arith, e, f)

if_sound : (b : Bool) (one other : Option Tracked) → IfSome one IsSound → IfSome other IsSound → IfSome (cond b one other) IsSound
if_sound true one other p q = p
if_sound false one other p q = q

all_itself : (kind : Name) → contains (all_of kind) (all_of kind) ≡ true
all_itself kind = eq-eqb _ _ (and_itself (all_of kind))

dirty_sound : (kind : Name) → IfSome (all_dirty kind) IsSound
dirty_sound kind = by (has_bits kind) refl
  where
    by : (b : Bool) → has_bits kind ≡ b → IfSome (cond b (Some (record { kind = kind; bits = bits_numbered (all_of kind) })) None) IsSound
    by true e = record { kept = e; within = all_itself kind }
    by false e = tt

marked_sound : (set : List Locator) (old : Option Tracked) → IfSome old IsSound → IfSome (option_map (with_bits_of set) old) IsSound
marked_sound set None h = h
marked_sound set (Some t) h = record { kept = h.kept; within = both_within (all_of t.kind) (number_of t.bits) (bits_of t.kind set) h.within (within_all t.kind set) }

one_sound : (n : Notice) (p : Path) (old : Option Tracked) → IfSome old IsSound → IfSome (tracked_by n p old) IsSound
one_sound (Added path kind) p old h = if_sound (is_same_path path p) (all_dirty kind) old (dirty_sound kind) h
one_sound (Removed path) p old h = if_sound (is_prefix path p) None old tt h
one_sound (Dirtied path set) p old h = if_sound (is_same_path path p) (option_map (with_bits_of set) old) old (marked_sound set old h) h
one_sound (Renamed from to) p old h = h

pub stays_sound : StaysSound
stays_sound [] p old h = h
stays_sound (n ∷ ns) p old h = stays_sound ns p (tracked_by n p old) (one_sound n p old h)

kind_of_dirty : (kind : Name) → kind_in (all_dirty kind) ≡ kind_with_bits (Some kind)
kind_of_dirty kind = by (has_bits kind)
  where
    by : (b : Bool) → kind_in (cond b (Some (record { kind = kind; bits = bits_numbered (all_of kind) })) None) ≡ cond b (Some kind) None
    by true = refl
    by false = refl

kind_of_marked : (set : List Locator) (kept : Option Tracked) → kind_in (option_map (with_bits_of set) kept) ≡ kind_in kept
kind_of_marked set None = refl
kind_of_marked set (Some t) = refl

-- one of two, each with its kind
one_of : (b : Bool) (one other : Option Tracked) (kind old : Option Name) → kind_in one ≡ kind_with_bits kind → kind_in other ≡ kind_with_bits old → kind_in (cond b one other) ≡ kind_with_bits (cond b kind old)
one_of true one other kind old p q = p
one_of false one other kind old p q = q

one_kept : (b : Bool) (one other : Option Tracked) (old : Option Name) → kind_in one ≡ kind_with_bits old → kind_in other ≡ kind_with_bits old → kind_in (cond b one other) ≡ kind_with_bits old
one_kept true one other old p q = p
one_kept false one other old p q = q

kind_by_one : (n : Notice) (p : Path) (now old : Option Name) (kept : Option Tracked) → is_renaming n ≡ false → kind_in kept ≡ kind_with_bits old → kind_in (tracked_by n p kept) ≡ kind_with_bits (kind_by n p now old)
kind_by_one (Added path kind) p now old kept given h = one_of (is_same_path path p) (all_dirty kind) kept (Some kind) old (kind_of_dirty kind) h
kind_by_one (Removed path) p now old kept given h = one_of (is_prefix path p) None kept None old refl h
kind_by_one (Dirtied path set) p now old kept given h = one_kept (is_same_path path p) (option_map (with_bits_of set) kept) kept old (kind_of_marked set kept ∙ h) h
kind_by_one (Renamed from to) p now old kept given h = true_is_not given

keeps_each : (ns : List Notice) (p : Path) (now old : Option Name) (kept : Option Tracked) → AllByRecursion (λ n. is_renaming n ≡ false) ns → kind_in kept ≡ kind_with_bits old
    → kind_in (tracked_after ns p kept) ≡ kind_with_bits (kind_after ns p now old)
keeps_each [] p now old kept none h = h
keeps_each (n ∷ ns) p now old kept none h = keeps_each ns p now (kind_by n p now old) (tracked_by n p kept) none.1 (kind_by_one n p now old kept none.0 h)

pub keeps_kinds : KeepsKinds
keeps_kinds ns p now old kept none h = keeps_each ns p now old kept (recursion_from_All (λ n. is_renaming n ≡ false) ns none) h

pub follows_kinds : FollowsKinds
follows_kinds old new ns p kept none tells h = keeps_kinds ns p (kind_at new p) (kind_at old p) kept none h ∙ ap kind_with_bits (sym (tells.kinds p))
