-- Laws of what notices tell.
use Rattle.std.proofs.Common.{◌≡◌, ℕ, Bool, true, false, ◌||◌, if◌then◌else◌, List, [], ◌∷◌, ◌++◌, Option, Some, None, ◌⊎◌, inl, inr, refl, sym, ◌∙◌, ap}
use Rattle.std.proofs.lemmas.List.Folds.{list_any-append}
use Rattle.std.specs.Option.{option_or, option_map}
use Rattle.std.specs.Prelude.{option_and_then}
use Rattle.std.specs.FinMap.{get}
use Rattle.hd_path.proofs.NamePrefixes.{or_false}
use Rattle.hd_path.specs.Paths.{Path, is_prefix}
use Rattle.hd_scene.specs.Scenes.{Scene, kind_at}
use Rattle.hd_scene.specs.Tells.{is_same_path, kind_by, kind_after, is_resynced_by, is_resynced, is_dirtied_by, is_dirtied, Tells}
use Rattle.hd_scene.specs.declared.prims.Entry.{Entry}
use Rattle.hd_scene.specs.declared.notice.Notice.{Notice}
use Rattle.hd_scene.specs.declared.notice.Notice.TheVariants.{Added, Removed, Dirtied, Renamed}
use Rattle.hd_tokens.specs.Locators.{Locator}

abbrev Kind : Type 0
Kind = Option (List ℕ)

-- the function gives back what it takes, or always gives one kind
abbrev pub KeepsOrSets : (Kind → Kind) → Type 0
KeepsOrSets f = ((k : Kind) → f k ≡ k) ⊎ ((j k : Kind) → f j ≡ f k)

set_where : (b : Bool) (now : Kind) → KeepsOrSets (λ k. if b then now else k)
set_where true now = inr (λ j k. refl)
set_where false now = inl (λ k. refl)

-- what a renaming leaves, by whether the path is at or below its first path, and its second one
abbrev renamed : Bool → Bool → Kind → Kind → Kind
renamed from to now old =
    let left = if from then None else old in
    if to then option_or now left else left

set_by_renaming : (from to : Bool) (now : Kind) → KeepsOrSets (renamed from to now)
set_by_renaming true to now = inr (λ j k. refl)
set_by_renaming false false now = inl (λ k. refl)
set_by_renaming false true None = inl (λ k. refl)
set_by_renaming false true (Some kind) = inr (λ j k. refl)

one_keeps_or_sets : (n : Notice) (p : Path) (now : Kind) → KeepsOrSets (kind_by n p now)
one_keeps_or_sets (Added path kind) p now = set_where (is_same_path path p) (Some kind)
one_keeps_or_sets (Removed path) p now = set_where (is_prefix path p) None
one_keeps_or_sets (Dirtied path set) p now = inl (λ k. refl)
one_keeps_or_sets (Renamed from to) p now = set_by_renaming (is_prefix from p) (is_prefix to p) now

after : (f g : Kind → Kind) → KeepsOrSets f → KeepsOrSets g → KeepsOrSets (λ k. g (f k))
after f g (inl f_keeps) (inl g_keeps) = inl (λ k. g_keeps (f k) ∙ f_keeps k)
after f g (inr f_sets) (inl g_keeps) = inr (λ j k. ap g (f_sets j k))
after f g f_does (inr g_sets) = inr (λ j k. g_sets (f j) (f k))

-- the last notice that speaks of the path decides, and where none does the kind stays
pub keeps_or_sets : (ns : List Notice) (p : Path) (now : Kind) → KeepsOrSets (kind_after ns p now)
keeps_or_sets [] p now = inl (λ k. refl)
keeps_or_sets (n ∷ ns) p now = after (kind_by n p now) (kind_after ns p now) (one_keeps_or_sets n p now) (keeps_or_sets ns p now)

pub kind_after-append : (ms ns : List Notice) (p : Path) (now k : Kind) → kind_after (ms ++ ns) p now k ≡ kind_after ns p now (kind_after ms p now k)
kind_after-append [] ns p now k = refl
kind_after-append (m ∷ ms) ns p now k = kind_after-append ms ns p now (kind_by m p now k)

-- kinds that are told step by step are told together
kinds_compose : (ms ns : List Notice) (p : Path) (a b c : Kind) → b ≡ kind_after ms p b a → c ≡ kind_after ns p c b → c ≡ kind_after (ms ++ ns) p c a
kinds_compose ms ns p a b c first second =
    elim (keeps_or_sets ns p c) [
      | inl keeps ↦
          let same : c ≡ b = second ∙ keeps b in
          same ∙ first ∙ ap (λ (now : Kind). kind_after ms p now a) (sym same) ∙ sym (keeps (kind_after ms p c a))
      | inr sets ↦ second ∙ sets b (kind_after ms p c a)
    ]
    ∙ sym (kind_after-append ms ns p c a)

pub is_resynced-append : (ms ns : List Notice) (p : Path) → is_resynced (ms ++ ns) p ≡ (is_resynced ms p || is_resynced ns p)
is_resynced-append ms ns p = list_any-append (λ n. is_resynced_by n p) ms ns

pub is_dirtied-append : (ms ns : List Notice) (p : Path) (at : Locator) → is_dirtied (ms ++ ns) p at ≡ (is_dirtied ms p at || is_dirtied ns p at)
is_dirtied-append ms ns p at = list_any-append (λ n. is_dirtied_by n p at) ms ns

-- steps that are told one after the other are told together
pub Tells-compose : (a b c : Scene) (ms ns : List Notice) → Tells a b ms → Tells b c ns → Tells a c (ms ++ ns)
Tells-compose a b c ms ns first second = record {
  kinds = λ p. kinds_compose ms ns p (kind_at a p) (kind_at b p) (kind_at c p) (first.kinds p) (second.kinds p);
  values = λ p at w d.
      let whole = or_false (is_resynced ms p) (is_resynced ns p) (sym (is_resynced-append ms ns p) ∙ w) in
      let dirtied = or_false (is_dirtied ms p at) (is_dirtied ns p at) (sym (is_dirtied-append ms ns p at) ∙ d) in
      second.values p at whole.1 dirtied.1 ∙ first.values p at whole.0 dirtied.0;
}

-- no notice tells that nothing changed
pub Tells-none : (a : Scene) → Tells a a []
Tells-none a = record { kinds = λ p. refl; values = λ p at w d. refl }

-- a prim that is not resynced keeps its kind, or is absent before and after
one_keeps : (n : Notice) (p : Path) (now k : Kind) → is_resynced_by n p ≡ false → kind_by n p now k ≡ k
one_keeps (Added path kind) p now k w = ap (λ b. if b then Some kind else k) w
one_keeps (Removed path) p now k w = ap (λ b. if b then None else k) w
one_keeps (Dirtied path set) p now k w = refl
one_keeps (Renamed from to) p now k w =
    let apart = or_false (is_prefix from p) (is_prefix to p) w in
    ap (λ b. renamed b (is_prefix to p) now k) apart.0 ∙ ap (λ b. renamed false b now k) apart.1

pub kind_after-keeps : (ns : List Notice) (p : Path) (now k : Kind) → is_resynced ns p ≡ false → kind_after ns p now k ≡ k
kind_after-keeps [] p now k w = refl
kind_after-keeps (n ∷ ns) p now k w =
    let quiet = or_false (is_resynced_by n p) (is_resynced ns p) w in
    kind_after-keeps ns p now (kind_by n p now k) quiet.1 ∙ one_keeps n p now k quiet.0

pub Tells-same_kind : (old new : Scene) (ns : List Notice) (p : Path) → Tells old new ns → is_resynced ns p ≡ false → kind_at new p ≡ kind_at old p
Tells-same_kind old new ns p tells w = tells.kinds p ∙ kind_after-keeps ns p (kind_at new p) (kind_at old p) w

same_values : (at : Locator) (o n : Option Entry) → option_map (λ (e : Entry). e.kind) n ≡ option_map (λ (e : Entry). e.kind) o
    → ((e f : Entry) → o ≡ Some e → n ≡ Some f → get f.values at ≡ get e.values at) → option_and_then (λ (e : Entry). get e.values at) n ≡ option_and_then (λ (e : Entry). get e.values at) o
same_values at None None kinds h = refl
same_values at None (Some f) kinds h = cc
same_values at (Some e) None kinds h = cc
same_values at (Some e) (Some f) kinds h = h e f refl refl

-- it is enough to compare the values of prims that are in both scenes
pub Tells-of_both : (old new : Scene) (ns : List Notice) → ((p : Path) → kind_at new p ≡ kind_after ns p (kind_at new p) (kind_at old p))
    → ((p : Path) (at : Locator) (e f : Entry) → get old p ≡ Some e → get new p ≡ Some f → is_resynced ns p ≡ false → is_dirtied ns p at ≡ false → get f.values at ≡ get e.values at)
    → Tells old new ns
Tells-of_both old new ns kinds both = record {
  kinds = kinds;
  values = λ p at w d. same_values at (get old p) (get new p) (kinds p ∙ kind_after-keeps ns p (kind_at new p) (kind_at old p) w) (λ e f there here. both p at e f there here w d);
}
