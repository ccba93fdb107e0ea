use Rattle.std.proofs.Common.{◌≡◌, length, take}
use Rattle.hd_index.proofs.Filling.{filled_from}
use Rattle.hd_index.proofs.table.fill.Given as goal

-- the jobs that are left are the first ones, and the rows after theirs are filled
abbrev pub invariant-loop-job : goal.invariant-loop-job
invariant-loop-job l = record {
  left : l.jobs.items ≡ take (length l.jobs.items) l.fn.jobs.items;
  rows : l.rows ≡ filled_from (length l.jobs.items) l.fn.jobs.items l.fn.rows;
}

abbrev pub decreases-loop-job : goal.decreases-loop-job
decreases-loop-job l = length l.jobs.items
