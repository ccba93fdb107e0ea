-- What is known where a bit is clear after notices.
use Rattle.std.proofs.Common.{◌≡◌, Bool, true, false, ◌&&◌, ◌||◌, cond, List, [], ◌∷◌, Option, Some, None, refl, sym, ◌∙◌, ap, subst}
use Rattle.std.specs.List.{AllByRecursion}
use Rattle.std.specs.Option.{option_map, IsSomeAnd}
use Rattle.std.proofs.lemmas.List.Elements.{recursion_from_All}
use Rattle.hd_path.proofs.Logic.{true_is_not}
use Rattle.hd_path.proofs.NamePrefixes.{and_true, or_false, same_text, same_itself, prefix_of_prefix}
use Rattle.hd_path.specs.Names.{Name, is_same}
use Rattle.hd_path.specs.Paths.{Path, is_prefix}
use Rattle.hd_tokens.specs.Locators.{Locator}
use Rattle.hd_value.specs.Locators.{intersects}
use Rattle.hd_value.specs.LocatorSets.{touches}
use Rattle.hd_value.specs.Groups.{locator_of_group}
use Rattle.hd_value.specs.declared.groups.Group.{Group}
use Rattle.hd_dirty.specs.Bits.{has, number_of}
use Rattle.hd_dirty.specs.Kinds.{all_of, bits_of}
use Rattle.hd_dirty.proofs.Reaching.{of_reached_groups, union_has_both}
use Rattle.hd_scene.specs.Tells.{is_same_path, is_resynced, is_dirtied}
use Rattle.hd_scene.specs.declared.notice.Notice.{Notice}
use Rattle.hd_scene.specs.declared.notice.Notice.TheVariants.{Added, Removed, Dirtied, Renamed}
use Rattle.hd_tracker.specs.declared.tracker.Tracked.{Tracked}
use Rattle.hd_tracker.specs.Tracks.{bits_numbered, has_bits, all_dirty, with_bits_of, tracked_by, tracked_after, is_renaming}
use Rattle.hd_tracker.specs.Laws.{IsUntold, ClearBitsAreUntold, ClearBitsKeepValues}

-- of two lists that one begins with, one begins with the other
both_prefixes : (a b whole : Locator) → is_prefix a whole ≡ true → is_prefix b whole ≡ true → intersects a b ≡ true
both_prefixes [] b whole p q = refl
both_prefixes (x ∷ a) [] whole p q = refl
both_prefixes (x ∷ a) (y ∷ b) [] p q = true_is_not (sym p)
both_prefixes (x ∷ a) (y ∷ b) (z ∷ whole) p q =
    let one = and_true (is_same x z) (is_prefix a whole) p in
    let other = and_true (is_same y z) (is_prefix b whole) q in
    let same : x ≡ y = same_text x z one.0 ∙ sym (same_text y z other.0) in
    ap (λ b0. (b0 && is_prefix a b) || (is_same y x && is_prefix b a)) (ap (is_same x) (sym same) ∙ same_itself x)
    ∙ ap (λ b0. is_prefix a b || (b0 && is_prefix b a)) (ap (is_same y) same ∙ same_itself y)
    ∙ both_prefixes a b whole one.1 other.1

-- what does not intersect a locator intersects none below it
apart_below : (member at below : Locator) → is_prefix at below ≡ true → intersects member at ≡ false → intersects member below ≡ false
apart_below member at below h apart =
    elim (is_prefix member below) as (λ b. is_prefix member below ≡ b → (b || is_prefix below member) ≡ false) [
      | true ↦ λ above. true_is_not (sym (both_prefixes member at below above h) ∙ apart)
      | false ↦ λ _. elim (is_prefix below member) as (λ b. is_prefix below member ≡ b → b ≡ false) [
        | true ↦ λ under. true_is_not (sym (prefix_of_prefix at below member h under) ∙ (or_false (is_prefix member at) (is_prefix at member) apart).1)
        | false ↦ λ _. refl
      ] refl
    ] refl

untouched_below : (set : List Locator) (at below : Locator) → is_prefix at below ≡ true → touches set at ≡ false → touches set below ≡ false
untouched_below [] at below h clear = refl
untouched_below (member ∷ set) at below h clear =
    let both = or_false (intersects member at) (touches set at) clear in
    ap (λ b. b || touches set below) (apart_below member at below h both.0) ∙ untouched_below set at below h both.1

-- a kept prim of the kind in which the group's bit is clear
abbrev IsClear : Group → Name → Tracked → Type 0
IsClear group kind t = (t.kind ≡ kind) × (has (number_of t.bits) group ≡ false)

not_all : (group : Group) (kind : Name) → has (all_of kind) group ≡ true → (new : Name) → IsSomeAnd (all_dirty new) (IsClear group kind) → ⊥
not_all group kind all new = by (has_bits new)
  where
    by : (b : Bool) → IsSomeAnd (cond b (Some (record { kind = new; bits = bits_numbered (all_of new) })) None) (IsClear group kind) → ⊥
    by true h = true_is_not (sym all ∙ ap (λ (k : Name). has (all_of k) group) (sym h.0) ∙ h.1)
    by false h = h

-- what was marked was clear, and the set does not reach the group
marked_clear : (group : Group) (kind : Name) (set : List Locator) (old : Option Tracked) → has (all_of kind) group ≡ true → IsSomeAnd (option_map (with_bits_of set) old) (IsClear group kind)
    → IsSomeAnd old (IsClear group kind) × (touches set (locator_of_group group) ≡ false)
marked_clear group kind set None all h = absurd h
marked_clear group kind set (Some t) all h =
    let both = or_false (has (number_of t.bits) group) (has (bits_of t.kind set) group) (sym (union_has_both (number_of t.bits) (bits_of t.kind set) group) ∙ h.1) in
    let has_it : has (all_of t.kind) group ≡ true = ap (λ (k : Name). has (all_of k) group) h.0 ∙ all in
    ((h.0, both.0), sym (ap (λ b. b && touches set (locator_of_group group)) has_it) ∙ sym (of_reached_groups t.kind set group) ∙ both.1)

-- what one notice says of the path
record OneUntold (n : Notice) (p : Path) (group : Group) (kind : Name) (old : Option Tracked) : Type 0 where
  before : IsSomeAnd old (IsClear group kind)
  rest : (ns : List Notice) → IsUntold ns p group → IsUntold (n ∷ ns) p group

one_untold : (n : Notice) (p : Path) (group : Group) (kind : Name) (old : Option Tracked) → is_renaming n ≡ false → has (all_of kind) group ≡ true → IsSomeAnd (tracked_by n p old) (IsClear group kind) → OneUntold n p group kind old
one_untold (Added path new) p group kind old given all h = by (is_same_path path p) refl h
  where
    by : (b : Bool) → is_same_path path p ≡ b → IsSomeAnd (cond b (all_dirty new) old) (IsClear group kind) → OneUntold (Added path new) p group kind old
    by true same h = absurd (not_all group kind all new h)
    by false other h = record { before = h; rest = λ ns rest. record { resynced = ap (λ b. b || is_resynced ns p) other ∙ rest.resynced; dirtied = rest.dirtied } }
one_untold (Removed path) p group kind old given all h = by (is_prefix path p) refl h
  where
    by : (b : Bool) → is_prefix path p ≡ b → IsSomeAnd (cond b None old) (IsClear group kind) → OneUntold (Removed path) p group kind old
    by true below h = absurd h
    by false other h = record { before = h; rest = λ ns rest. record { resynced = ap (λ b. b || is_resynced ns p) other ∙ rest.resynced; dirtied = rest.dirtied } }
one_untold (Dirtied path set) p group kind old given all h = by (is_same_path path p) refl h
  where
    by : (b : Bool) → is_same_path path p ≡ b → IsSomeAnd (cond b (option_map (with_bits_of set) old) old) (IsClear group kind) → OneUntold (Dirtied path set) p group kind old
    by true same h =
        let was = marked_clear group kind set old all h in
        record {
          before = was.0;
          rest = λ ns rest. record {
            resynced = rest.resynced;
            dirtied = λ at below.
                ap (λ b. (b && touches set at) || is_dirtied ns p at) same ∙ ap (λ b. b || is_dirtied ns p at) (untouched_below set (locator_of_group group) at below was.1) ∙ rest.dirtied at below;
          };
        }
    by false other h = record { before = h; rest = λ ns rest. record { resynced = rest.resynced; dirtied = λ at below. ap (λ b. (b && touches set at) || is_dirtied ns p at) other ∙ rest.dirtied at below } }
one_untold (Renamed from to) p group kind old given all h = true_is_not given

all_untold : (ns : List Notice) (p : Path) (group : Group) (kind : Name) (old : Option Tracked) → AllByRecursion (λ n. is_renaming n ≡ false) ns → has (all_of kind) group ≡ true → IsSomeAnd (tracked_after ns p old) (IsClear group kind)
    → IsUntold ns p group × IsSomeAnd old (IsClear group kind)
all_untold [] p group kind old none all h = (record { resynced = refl; dirtied = λ at below. refl }, h)
all_untold (n ∷ ns) p group kind old none all h =
    let later = all_untold ns p group kind (tracked_by n p old) none.1 all h in
    let one = one_untold n p group kind old none.0 all later.1 in
    (one.rest ns later.0, one.before)

pub clear_bits_are_untold : ClearBitsAreUntold
clear_bits_are_untold ns p old new group none is all clear =
    all_untold ns p group new.kind old (recursion_from_All (λ n. is_renaming n ≡ false) ns none) all (subst (λ (o : Option Tracked). IsSomeAnd o (IsClear group new.kind)) (sym is) (refl, clear))

pub clear_bits_keep_values : ClearBitsKeepValues
clear_bits_keep_values old new ns p kept t group at none tells is all clear below =
    let untold = (clear_bits_are_untold ns p kept t group none is all clear).0 in
    tells.values p at untold.resynced (untold.dirtied at below)
