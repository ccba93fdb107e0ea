use Rattle.std.proofs.Common.{◌≡◌, map, take}
use Rattle.hd_rprim.specs.Tables.{paths_of_rows}
use Rattle.hd_index.proofs.table.table_of.Given as goal

-- the table has the paths of the jobs so far
abbrev pub invariant-loop-job : goal.invariant-loop-job
invariant-loop-job l = paths_of_rows l.rows ≡ map (λ job. job.path) (take l.job-index l.jobs)
