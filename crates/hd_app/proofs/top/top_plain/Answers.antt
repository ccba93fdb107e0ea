use Rattle.hd_app.proofs.TopLemmas.{complete, cut, read_fault, read_fault_line, read_fault_alone, write_fault}
use Rattle.hd_app.proofs.top.top_plain.Goals as goal

pub returns-clause-complete : goal.returns-clause-complete
returns-clause-complete g c = complete _ _ _ _ _ _ c.run.ensures.runs

pub returns-clause-read_fault : goal.returns-clause-read_fault
returns-clause-read_fault g c = read_fault _ _ _ _ _ _ c.run.ensures.runs

pub returns-clause-read_fault_line : goal.returns-clause-read_fault_line
returns-clause-read_fault_line g c = read_fault_line _ _ _ _ _ _ c.run.ensures.runs

pub returns-clause-read_fault_alone : goal.returns-clause-read_fault_alone
returns-clause-read_fault_alone g c = read_fault_alone _ _ _ _ _ _ c.run.ensures.runs

pub returns-clause-write_fault : goal.returns-clause-write_fault
returns-clause-write_fault g c = write_fault _ _ _ _ _ _ c.run.ensures.runs

pub returns-clause-cut : goal.returns-clause-cut
returns-clause-cut g c = λ _. cut _ _ _ _ _ _ c.run.ensures.runs
