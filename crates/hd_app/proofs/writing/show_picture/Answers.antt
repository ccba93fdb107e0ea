use Rattle.std.proofs.Common.{◌∙◌}
use Rattle.hd_app.specs.Outcomes.{picture_outcome}
use Rattle.hd_app.proofs.EndLemmas.{frame_broken, unwritten}
use Rattle.hd_app.proofs.writing.show_picture.Goals as goal

pub returns-in_default : goal.returns-in_default
returns-in_default g c = record { ends = unwritten (picture_outcome c.args.name.now c.args.picture.now) _ }

pub returns : goal.returns
returns g c = record {
  ends =
      rw c.status_of_write.ensures
      (frame_broken c.args.name.now c.args.picture.now c.deref.result.now _ _ c.in-Err.fault
      (c.deref.ensures.value ∙ c.in-Ok.ensures) c.in-Err.ensures.cut c.in-Err.ensures.cause);
}
