use Rattle.hd_io.specs.Real.{shelf_state}
use Rattle.hydra.proofs.run.Goals as goal

pub returns : goal.returns
returns c = record { answer = (shelf_state c.top_plain.new.shelf, c.top_plain.ensures.answer) }
