use Rattle.std.proofs.Common.{◌≡◌, map, take}
use Rattle.hd_dirty.specs.Bits.{number_of}
use Rattle.hd_index.specs.Reports.{path_and_bits}
use Rattle.hd_index.proofs.report.report_of.Given as goal

abbrev pub invariant-loop-job : goal.invariant-loop-job
invariant-loop-job l = map path_and_bits l.dirty.items ≡ map (λ job. (job.path, number_of job.bits)) (take l.job-index l.jobs)
