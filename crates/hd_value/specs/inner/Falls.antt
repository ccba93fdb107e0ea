-- A container is deeper than those inside it.
use Rattle.std.specs.Prelude.{◌≡◌, ◌≢◌, ◌+◌, ◌≤◌, max, List, [], ◌∷◌, ◌++◌, map, length, Option, Some, None, refl}
use Rattle.std.specs.declared.cmp.Ordering.TheVariants.{Less, Equal, Greater}
use Rattle.std.specs.declared.sync.Arc.{Arc}
use Rattle.std.specs.declared.vec.Vec.{Vec}
use Rattle.std.specs.declared.alloc.Global.{Global}
use Rattle.std.specs.Ordering.{nat_cmp}
use Rattle.std.specs.Cmp.{IsTotalOrder}
use Rattle.std.specs.Cmp.Lexicographic.{slice_cmp, lists_total, nat_list_cmp_total}
use Rattle.std.specs.FinMap.{entries, from_entries, empty, entries-insert, empty_of_len, len-entries, IsAntisymmetric, slice_cmp-IsAntisymmetric, nat_cmp-IsAntisymmetric}
use Rattle.std.specs.FinMap.Entries.{put, by_order}
use Rattle.std.proofs.Common.{arith, ap, ◌∙◌}
use denote.Param.Weighed.{most}
use Rattle.hd_path.specs.Names.{Name}
use Rattle.hd_tokens.specs.Locators.{Locator}
use Rattle.hd_value.specs.declared.value.Value.{Value}
use Rattle.hd_value.specs.declared.container.Entry.{Entry}
use Rattle.hd_value.specs.declared.container.Source.{Source}
use Rattle.hd_value.specs.declared.container.Source.TheVariants.{Inner, Leaf}
use Rattle.hd_value.specs.declared.container.Container.TheInside.{Inside}
use Rattle.hd_value.specs.declared.container.Container.TheDeep.{deep-Source, deep-Entry, deep-Container}
use Rattle.hd_value.specs.Maps.{Map}
use Rattle.hd_value.specs.Levels.{level_map, values_at, values_of}
use Rattle.hd_value.specs.inner.Entries.{IsFilled, IsLevel, AreEntries}
use Rattle.hd_value.specs.inner.Depths.{longest, depth}

-- locators are in a total order, in which only equal ones tie
pub locators_total : IsTotalOrder (slice_cmp (slice_cmp nat_cmp))
locators_total = lists_total nat_list_cmp_total

pub locators_tie : IsAntisymmetric (slice_cmp (slice_cmp nat_cmp))
locators_tie = slice_cmp-IsAntisymmetric (slice_cmp-IsAntisymmetric nat_cmp-IsAntisymmetric)

longest-put : (k : Locator) (v : Value) (es : List (Locator × Value)) → max (length k) (longest es) ≤ longest (put (slice_cmp (slice_cmp nat_cmp)) k v es)
longest-put k v [] = omega arith
longest-put k v (e ∷ es) =
    let rest : max (length k) (longest es) ≤ longest (put (slice_cmp (slice_cmp nat_cmp)) k v es) = longest-put k v es in
    elim (slice_cmp (slice_cmp nat_cmp) k e.0) as (λ r. slice_cmp (slice_cmp nat_cmp) k e.0 ≡ r → max (length k) (max (length e.0) (longest es)) ≤ longest (by_order r ((k, v) ∷ e ∷ es) ((e.0, v) ∷ es) (e ∷ put (slice_cmp (slice_cmp nat_cmp)) k v es))) [
      | Less ↦ λ is. omega arith
      | Equal ↦ λ is. let same : length k ≡ length e.0 = ap length (locators_tie k e.0 is) in omega arith
      | Greater ↦ λ is. omega arith
    ] refl

-- no locator is lost
pub longest-from_entries : (es : List (Locator × Value)) → longest es ≤ longest (entries (from_entries {R = slice_cmp (slice_cmp nat_cmp)} es))
longest-from_entries [] = omega arith
longest-from_entries (e ∷ es) =
    rw (entries-insert locators_total (from_entries es) e.0 e.1) (omega (arith, longest-put e.0 e.1 (entries (from_entries {R = slice_cmp (slice_cmp nat_cmp)} es)), longest-from_entries es))

pub longest-append : (xs ys : List (Locator × Value)) → longest (xs ++ ys) ≡ max (longest xs) (longest ys)
longest-append [] ys = omega arith
longest-append (x ∷ xs) ys = omega (arith, longest-append xs ys)

pub longest-under : (token : Name) (es : List (Locator × Value)) → es ≢ [] → longest es + 1 ≤ longest (map (λ e. (token ∷ e.0, e.1)) es)
longest-under token [] some = absurd (some refl)
longest-under token (e ∷ []) some = omega arith
longest-under token (e ∷ f ∷ es) some = omega (arith, longest-under token (f ∷ es) (λ none. cc))

pub entries_exist : (m : Map) → m ≢ empty → entries m ≢ []
entries_exist m some none = some (empty_of_len m (len-entries m ∙ ap length none))

source_falls : (token : Name) (source : Source) → IsFilled source → deep-Source source ≤ longest (values_at token source)
source_falls token (Leaf value) h = omega arith
source_falls token (Inner inner) h = omega (arith, longest-under token (entries inner) (entries_exist inner h.filled))

entries_fall : (es : List Entry) → AreEntries es → most deep-Entry es ≤ longest (values_of es)
entries_fall [] h = omega arith
entries_fall (e ∷ es) h =
    omega (arith, longest-append (values_at e.token e.source) (values_of es), source_falls e.token e.source h.0, entries_fall es h.2)

level_falls : (level : Option (Arc (Vec Entry Global) Global)) → IsLevel level → deep-Container (record { level = level }) ≤ depth (level_map level)
level_falls None h = omega arith
level_falls (Some level) h = omega (arith, entries_fall level.value.items h, longest-from_entries (values_of level.value.items))

pub inner_falls : (a : Inside) → IsLevel a.level → deep-Container a ≤ depth (level_map a.level)
inner_falls a h = level_falls a.level h
