-- Rows that are put after all others of a table.
use Rattle.std.proofs.Common.{◌≡◌, ℕ, zero, suc, ◌+◌, ◌<◌, cond, filter, get_or, length, take, map, List, [], ◌∷◌, ◌++◌, Less, refl, sym, ◌∙◌, ap, subst, arith}
use Rattle.std.specs.List.{AllByRecursion}
use Rattle.std.specs.List.Sorted.{IsStrictlySortedBy}
use Rattle.std.specs.Ordering.{is_lt, is_gt}
use Rattle.std.proofs.lemmas.List.{take_more, map-append}
use Rattle.hd_path.specs.Paths.{Path, path_cmp}
use Rattle.hd_rprim.specs.declared.row.Row.{Row}
use Rattle.hd_rprim.specs.declared.row_table.PathRow.{PathRow}
use Rattle.hd_rprim.specs.Tables.{paths_of_rows, rows_with, AreRows}
use Rattle.hd_index.specs.declared.job.RowJob.{RowJob}
use Rattle.hd_index.specs.inner.Jobs.{placed}

-- the paths of jobs
abbrev pub paths_of : List RowJob → List Path
paths_of jobs = map (λ (job : RowJob). job.path) jobs

-- the rows of jobs are at the jobs' paths
placed_at_paths : (jobs : List RowJob) → paths_of_rows (map placed jobs) ≡ paths_of jobs
placed_at_paths [] = refl
placed_at_paths (job ∷ jobs) = ap (λ ps. job.path ∷ ps) (placed_at_paths jobs)

abbrev AreBelow : Path → List Path → Type 0
AreBelow path paths = AllByRecursion (λ p. path_cmp p path ≡ Less) paths

after_all : (path : Path) (row : Row) (rows : List PathRow) → AreBelow path (paths_of_rows rows) → paths_of_rows (rows_with path row rows) ≡ paths_of_rows rows ++ path ∷ []
after_all path row [] h = refl
after_all path row (r ∷ rows) h =
    ap (λ o. paths_of_rows (cond (is_lt o) (r ∷ lower) lower ++ record { path = path; row = row } ∷ cond (is_gt o) (r ∷ upper) upper)) h.0
    ∙ ap (λ ps. r.path ∷ ps) (after_all path row rows h.1)
  where
    lower : List PathRow
    lower = filter (λ r. is_lt (path_cmp r.path path)) rows

    upper : List PathRow
    upper = filter (λ r. is_gt (path_cmp r.path path)) rows

job_after : (path : Path) (jobs : List RowJob) (i : ℕ) (d : RowJob) → AllByRecursion (λ p. path_cmp path p ≡ Less) (paths_of jobs) → i < length jobs → path_cmp path (get_or jobs i d).path ≡ Less
job_after path [] i d h l = absurd (omega arith)
job_after path (job ∷ jobs) zero d h l = h.0
job_after path (job ∷ jobs) (suc i) d h l = job_after path jobs i d h.1 (omega arith)

-- where the paths of jobs ascend, those before one are below its path
jobs_below : (jobs : List RowJob) (i : ℕ) (d : RowJob) → IsStrictlySortedBy path_cmp (paths_of jobs) → i < length jobs → AreBelow (get_or jobs i d).path (paths_of (take i jobs))
unfolding IsStrictlySortedBy
jobs_below [] i d h l = absurd (omega arith)
jobs_below (job ∷ jobs) zero d h l = tt
jobs_below (job ∷ jobs) (suc i) d h l = (job_after job.path jobs i d h.0 (omega arith), jobs_below jobs i d h.1 (omega arith))

-- one more row is put at the path of the next job
pub row_appended : (jobs : List RowJob) (i : ℕ) (job : RowJob) (row : Row) (rows : List PathRow) → AreRows (map placed jobs) → i < length jobs → job ≡ get_or jobs i job
    → paths_of_rows rows ≡ paths_of (take i jobs) → paths_of_rows (rows_with job.path row rows) ≡ paths_of (take (i + 1) jobs)
row_appended jobs i job row rows h l is so_far =
    let ascend : IsStrictlySortedBy path_cmp (paths_of jobs) = subst (IsStrictlySortedBy path_cmp) (placed_at_paths jobs) h in
    let below : AreBelow job.path (paths_of (take i jobs)) = subst (λ (j : RowJob). AreBelow j.path (paths_of (take i jobs))) (sym is) (jobs_below jobs i job ascend l) in
    after_all job.path row rows (subst (AreBelow job.path) (sym so_far) below)
    ∙ ap (λ ps. ps ++ job.path ∷ []) so_far
    ∙ ap (λ (j : RowJob). paths_of (take i jobs) ++ j.path ∷ []) is
    ∙ sym (ap paths_of (take_more jobs i job l) ∙ map-append (λ (j : RowJob). j.path) (take i jobs) (get_or jobs i job ∷ []))
