use Rattle.std.proofs.Common.{◌≢◌, AllPairs, string_bytes}
use Rattle.program_cases.proofs.run.files_of.Given as goal

-- no two files have one name
abbrev pub invariant-loop-word : goal.invariant-loop-word
invariant-loop-word l = AllPairs (λ one other. string_bytes one.name ≢ string_bytes other.name) l.files.items
