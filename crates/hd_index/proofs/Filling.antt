-- Rows that are put into a table from its end.
use Rattle.std.proofs.Common.{◌≡◌, ℕ, zero, suc, ◌<◌, length, get_or, take, drop, map, List, [], ◌∷◌, ◌++◌, refl, sym, ◌∙◌, ap, arith, length-append}
use Rattle.hd_path.specs.Paths.{Path}
use Rattle.hd_rprim.specs.declared.row_table.PathRow.{PathRow}
use Rattle.hd_rprim.specs.Tables.{paths_of_rows, with_row_at}
use Rattle.hd_index.specs.declared.job.RowJob.{RowJob}
use Rattle.hd_index.specs.inner.Jobs.{placed, with_slots}
use Rattle.hd_index.proofs.Appending.{paths_of}

-- the rows in which those from a number on are of the jobs
abbrev pub filled_from : ℕ → List RowJob → List PathRow → List PathRow
filled_from n jobs rows = take n rows ++ map placed (drop n jobs)

first_path : (r : PathRow) (rows : List PathRow) (job : RowJob) (jobs : List RowJob) → paths_of_rows (r ∷ rows) ≡ paths_of (job ∷ jobs) → r.path ≡ job.path
first_path r rows job jobs h = ap (λ ps. get_or ps 0 r.path) h

other_paths : (r : PathRow) (rows : List PathRow) (job : RowJob) (jobs : List RowJob) → paths_of_rows (r ∷ rows) ≡ paths_of (job ∷ jobs) → paths_of_rows rows ≡ paths_of jobs
other_paths r rows job jobs h = ap (drop 1) h

-- the row of the last job that is left is put in its place
pub one_filled : (n : ℕ) (job : RowJob) (jobs : List RowJob) (rows : List PathRow) → paths_of_rows rows ≡ paths_of jobs → n < length jobs → job ≡ get_or jobs n job
    → with_row_at n (with_slots job.slots job.row) (filled_from (suc n) jobs rows) ≡ filled_from n jobs rows
one_filled n job [] rows h l is = absurd (omega arith)
one_filled n job (j ∷ jobs) [] h l is = let none : 0 ≡ suc (length (paths_of jobs)) = ap length h in absurd (omega (arith, none))
one_filled zero job (j ∷ jobs) (r ∷ rows) h l is =
    ap (λ (p : Path). record { path = p; row = with_slots job.slots job.row } ∷ map placed jobs) (first_path r rows j jobs h)
    ∙ ap (λ (k : RowJob). record { path = j.path; row = with_slots k.slots k.row } ∷ map placed jobs) is
one_filled (suc n) job (j ∷ jobs) (r ∷ rows) h l is = ap (λ rs. r ∷ rs) (one_filled n job jobs rows (other_paths r rows j jobs h) (omega arith) is)

pub in_table : (n : ℕ) (jobs : List RowJob) (rows : List PathRow) → paths_of_rows rows ≡ paths_of jobs → n < length jobs → n < length (filled_from (suc n) jobs rows)
in_table n [] rows h l = absurd (omega arith)
in_table n (j ∷ jobs) [] h l = let none : 0 ≡ suc (length (paths_of jobs)) = ap length h in absurd (omega (arith, none))
in_table zero (j ∷ jobs) (r ∷ rows) h l = omega arith
in_table (suc n) (j ∷ jobs) (r ∷ rows) h l = let rest = in_table n jobs rows (other_paths r rows j jobs h) (omega arith) in omega (arith, rest)

-- what is known of the jobs that are left when the last one is taken
pub record LeavesFirst (rest : List RowJob) (job : RowJob) (all : List RowJob) : Type 0 where
  pub are_first : rest ≡ take (length rest) all
  pub fewer : length rest < length all
  pub is_next : job ≡ get_or all (length rest) job

last_taken : (rest : List RowJob) (job : RowJob) (all : List RowJob) → rest ++ job ∷ [] ≡ take (suc (length rest)) all → LeavesFirst rest job all
last_taken [] job [] h = let none : 1 ≡ 0 = ap length h in absurd (omega (arith, none))
last_taken [] job (j ∷ jobs) h = record { are_first = refl; fewer = omega arith; is_next = ap (λ js. get_or js 0 job) h }
last_taken (r ∷ rest) job [] h = let none : suc (length (rest ++ job ∷ [])) ≡ 0 = ap length h in absurd (omega (arith, none))
last_taken (r ∷ rest) job (j ∷ jobs) h =
    let first : r ≡ j = ap (λ js. get_or js 0 r) h in
    let others = last_taken rest job jobs (ap (drop 1) h) in
    record {
      are_first = ap (λ k. k ∷ rest) first ∙ ap (λ js. j ∷ js) others.are_first;
      fewer = omega (arith, others.fewer);
      is_next = others.is_next;
    }

one_more : (rest : List RowJob) (job : RowJob) → length (rest ++ job ∷ []) ≡ suc (length rest)
one_more rest job = length-append rest (job ∷ []) ∙ omega arith

-- of the first jobs, the last is taken
pub job_taken : (left rest : List RowJob) (job : RowJob) (all : List RowJob) → left ≡ take (length left) all → left ≡ rest ++ job ∷ [] → LeavesFirst rest job all
job_taken left rest job all first is = last_taken rest job all (sym is ∙ first ∙ ap (λ n. take n all) (ap length is ∙ one_more rest job))

pub one_fewer : (left rest : List RowJob) (job : RowJob) → left ≡ rest ++ job ∷ [] → length left ≡ suc (length rest)
one_fewer left rest job is = ap length is ∙ one_more rest job
