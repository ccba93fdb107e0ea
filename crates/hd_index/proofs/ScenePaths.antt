-- What is read at the paths of a scene, one after another.
use Rattle.std.proofs.Common.{◌≡◌, cond, map, filter_map, List, [], ◌∷◌, ◌++◌, Option, Some, None, Less, Greater, is_eq, append_assoc, append-nil, refl, sym, ◌∙◌, ap, subst, length, arith}
use Rattle.std.specs.List.{AllByRecursion, cons_option}
use Rattle.std.specs.List.Sorted.{IsStrictlySortedBy}
use Rattle.std.specs.Map.{keys_of}
use Rattle.std.specs.Option.{option_map}
use Rattle.std.specs.Ordering.{ordering_reverse}
use Rattle.std.specs.FinMap.{entries, keys, get, find, get-entries}
use Rattle.std.proofs.lemmas.Cmp.{tied_itself}
use Rattle.hd_path.specs.Paths.{Path, path_cmp}
use Rattle.hd_scene.specs.Scenes.{Scene}
use Rattle.hd_scene.specs.declared.prims.Entry.{Entry}
use Rattle.hd_scene.proofs.Ascending.{keys_ascend}
use Rattle.hd_scene.proofs.Children.{path_cmp_total}
use Rattle.hd_rprim.specs.PrimRows.{row_read, contents_read, row_of_prim, rows_of}
use Rattle.hd_rprim.specs.Shown.{ShownRow}
use Rattle.hd_rprim.specs.Tables.{paths_of_rows, AreRows}
use Rattle.hd_index.specs.declared.job.RowJob.{RowJob}
use Rattle.hd_index.specs.inner.Jobs.{planned, placed}

-- look-up at paths that are all after the first one
module _ {X : Type 0} (f : Path → Option Entry → Option X) where
  found_after : (e : Path × Entry) (es : List (Path × Entry)) (paths : List Path) → AllByRecursion (λ p. path_cmp e.0 p ≡ Less) paths
      → filter_map (λ p. f p (find path_cmp p (e ∷ es))) paths ≡ filter_map (λ p. f p (find path_cmp p es)) paths
  found_after e es [] h = refl
  found_after e es (p ∷ paths) h =
      let after : path_cmp p e.0 ≡ Greater = path_cmp_total.antisymm p e.0 ∙ ap ordering_reverse h.0 in
      ap (λ o. cons_option (f p (cond (is_eq o) (Some e.1) (find path_cmp p es))) (filter_map (λ p. f p (find path_cmp p (e ∷ es))) paths)) after
      ∙ ap (cons_option (f p (find path_cmp p es))) (found_after e es paths h.1)

  found_each : (es : List (Path × Entry)) → IsStrictlySortedBy path_cmp (keys_of es) → filter_map (λ p. f p (find path_cmp p es)) (map (λ e. e.0) es) ≡ filter_map (λ e. f e.0 (Some e.1)) es
  unfolding IsStrictlySortedBy
  found_each [] h = refl
  found_each (e ∷ es) h =
      ap (λ o. cons_option (f e.0 (cond (is_eq o) (Some e.1) (find path_cmp e.0 es))) (filter_map (λ p. f p (find path_cmp p (e ∷ es))) (keys_of es))) (tied_itself path_cmp_total e.0)
      ∙ ap (cons_option (f e.0 (Some e.1))) (found_after e es (keys_of es) h.0 ∙ found_each es h.1)

  -- each entry of a scene is found at its path
  pub read_at_keys : (scene : Scene) → filter_map (λ p. f p (get scene p)) (keys scene) ≡ filter_map (λ e. f e.0 (Some e.1)) (entries scene)
  read_at_keys scene = filter_map_same (keys scene) ∙ found_each (entries scene) (keys_ascend scene)
    where
      filter_map_same : (paths : List Path) → filter_map (λ p. f p (get scene p)) paths ≡ filter_map (λ p. f p (find path_cmp p (entries scene))) paths
      filter_map_same [] = refl
      filter_map_same (p ∷ paths) =
          ap (λ o. cons_option (f p o) (filter_map (λ p. f p (get scene p)) paths)) (get-entries scene p)
          ∙ ap (cons_option (f p (find path_cmp p (entries scene)))) (filter_map_same paths)

-- what is read first comes after what was read before
pub one_read : {X : Type 0} (h : Path → Option X) (before after all : List X) (path : Path) (left rest : List Path) → left ≡ path ∷ rest → after ≡ before ++ cons_option (h path) []
    → all ≡ before ++ filter_map h left → all ≡ after ++ filter_map h rest
one_read h before after all path left rest is next so_far =
    so_far
    ∙ ap (λ ps. before ++ filter_map h ps) is
    ∙ sym (ap (λ xs. xs ++ filter_map h rest) next ∙ append_assoc before (cons_option (h path) []) (filter_map h rest) ∙ ap (λ xs. before ++ xs) (first_alone (h path)))
  where
    first_alone : (o : Option _) → cons_option o [] ++ filter_map h rest ≡ cons_option o (filter_map h rest)
    first_alone None = refl
    first_alone (Some x) = refl

pub all_read : {X : Type 0} (h : Path → Option X) (read all : List X) (left : List Path) → length left ≡ 0 → all ≡ read ++ filter_map h left → read ≡ all
all_read h read all [] none so_far = sym (so_far ∙ append-nil read)
all_read h read all (path ∷ left) none so_far = absurd (omega (arith, none))

-- the paths of the rows of some entries
rows_after : (path : Path) (es : List (Path × Entry)) → AllByRecursion (λ p. path_cmp path p ≡ Less) (keys_of es) → AllByRecursion (λ p. path_cmp path p ≡ Less) (map (λ (r : ShownRow). r.path) (filter_map row_of_prim es))
rows_after path [] h = tt
rows_after path (e ∷ es) h =
    elim (row_read e.1.kind e.1.values) as (λ o. AllByRecursion (λ p. path_cmp path p ≡ Less) (map (λ (r : ShownRow). r.path) (cons_option (option_map (λ row. record { path = e.0; row = row; contents = contents_read row e.1.values }) o) (filter_map row_of_prim es)))) [
      | None ↦ rows_after path es h.1
      | Some row ↦ (h.0, rows_after path es h.1)
    ]

rows_ascend : (es : List (Path × Entry)) → IsStrictlySortedBy path_cmp (keys_of es) → IsStrictlySortedBy path_cmp (map (λ (r : ShownRow). r.path) (filter_map row_of_prim es))
unfolding IsStrictlySortedBy
rows_ascend [] h = tt
rows_ascend (e ∷ es) h =
    elim (row_read e.1.kind e.1.values) as (λ o. IsStrictlySortedBy path_cmp (map (λ (r : ShownRow). r.path) (cons_option (option_map (λ row. record { path = e.0; row = row; contents = contents_read row e.1.values }) o) (filter_map row_of_prim es)))) [
      | None ↦ rows_ascend es h.1
      | Some row ↦ (rows_after e.0 es h.0, rows_ascend es h.1)
    ]

paths_planned : (jobs : List RowJob) → map (λ (r : ShownRow). r.path) (map planned jobs) ≡ paths_of_rows (map placed jobs)
paths_planned [] = refl
paths_planned (job ∷ jobs) = ap (λ ps. job.path ∷ ps) (paths_planned jobs)

-- jobs of the rows of a scene have paths that ascend
pub jobs_ascend : (scene : Scene) (jobs : List RowJob) → map planned jobs ≡ rows_of scene → AreRows (map placed jobs)
jobs_ascend scene jobs h =
    subst (IsStrictlySortedBy path_cmp) (ap (map (λ (r : ShownRow). r.path)) (sym h) ∙ paths_planned jobs) (rows_ascend (entries scene) (keys_ascend scene))
