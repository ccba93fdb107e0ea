use Rattle.hd_rprim.proofs.staging.stage.Goals as goal

-- what a row that is drawn wants does not depend on what is in it
pub returns-in_ok-stage_rprim-in-Rprim-clause-wants : goal.returns-in_ok-stage_rprim-in-Rprim-clause-wants
returns-in_ok-stage_rprim-in-Rprim-clause-wants c = rw c.in-Rprim.is (c.in_ok-wants-in-Rprim.ensures c.in-Rprim.row)
