-- The scenes from a place of a list on.
use Rattle.std.proofs.Common.{◌≡◌, ℕ, ◌+◌, ◌<◌, zero, suc, List, [], ◌∷◌, length, drop, Option, Some, refl, sym, ◌∙◌, ap, arith, add-one}
use Rattle.std.specs.Prelude.{slice_get}
use Rattle.std.specs.List.{cons_option}
use Rattle.std.specs.FinMap.{get}
use Rattle.hd_scene.specs.Scenes.{Scene}
use Rattle.hd_scene.specs.declared.prims.Entry.{Entry}
use Rattle.hd_merging.specs.Merges.{merged_entry, prims_at, merged_scene}
use Rattle.hd_merging.specs.inner.MergedScenes.{get-merged}
use Rattle.hd_path.specs.Paths.{Path}

-- there is a scene at each place
pub at_place : (ss : List Scene) (i : ℕ) → i < length ss → (s : Scene) × (slice_get ss i ≡ Some s)
at_place [] i h = absurd (omega arith)
at_place (s ∷ ss) zero h = (s, refl)
at_place (s ∷ ss) (suc i) h = at_place ss i (omega arith)

pub from_place : (ss : List Scene) (i n : ℕ) (s : Scene) → n ≡ i + 1 → slice_get ss i ≡ Some s → drop i ss ≡ s ∷ drop n ss
from_place ss i n s next here = at_one ss i here ∙ ap (λ (k : ℕ). s ∷ drop k ss) (sym next)
  where
    at_one : (ss : List Scene) (i : ℕ) → slice_get ss i ≡ Some s → drop i ss ≡ s ∷ drop (i + 1) ss
    at_one [] i h = absurd (cc)
    at_one (x ∷ xs) zero h = let e : x ≡ s = cc in ap (λ (z : Scene). z ∷ xs) e
    at_one (x ∷ xs) (suc i) h = rw add-one (at_one xs i h ∙ rw add-one refl)

-- what the prims are together, with one scene more
pub prim_further : (ss : List Scene) (i n : ℕ) (s : Scene) (path : Path) (stronger old new : Option Entry) → n ≡ i + 1 → slice_get ss i ≡ Some s → stronger ≡ get s path
    → ((weaker : List Entry) → old ≡ merged_entry weaker → new ≡ merged_entry (cons_option stronger weaker))
    → old ≡ merged_entry (prims_at (drop n ss) path) → new ≡ merged_entry (prims_at (drop i ss) path)
prim_further ss i n s path stronger old new next here is laid before =
    laid (prims_at (drop n ss) path) before
    ∙ ap (λ (o : Option Entry). merged_entry (cons_option o (prims_at (drop n ss) path))) is
    ∙ ap (λ (z : List Scene). merged_entry (prims_at z path)) (sym (from_place ss i n s next here))

-- and with all of them
pub prim_of_merged : (ss : List Scene) (i : ℕ) (path : Path) (o : Option Entry) → i ≡ 0 → o ≡ merged_entry (prims_at (drop i ss) path) → o ≡ get (merged_scene ss) path
prim_of_merged ss i path o first is = is ∙ ap (λ (k : ℕ). merged_entry (prims_at (drop k ss) path)) first ∙ sym (get-merged ss path)
