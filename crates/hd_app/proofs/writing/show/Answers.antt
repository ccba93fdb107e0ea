use Rattle.std.proofs.Common.{◌∙◌, Err, ap}
use Rattle.hd_app.specs.Outcomes.{draw_outcome}
use Rattle.hd_app.proofs.EndLemmas.{picture_drawn, too_many, unwritten}
use Rattle.hd_app.proofs.writing.show.Goals as goal

pub returns-in-Ok : goal.returns-in-Ok
returns-in-Ok g c = record {
  ends =
      picture_drawn c.args.file.now c.args.name.now c.deref.result.now c.args.layer _ _ c.show_picture.result c.in-Ok.ensures.few
      (c.deref.ensures.value ∙ c.in-Ok.ensures.bytes) c.show_picture.ensures.ends;
}

pub returns-in-Err-Triangles : goal.returns-in-Err-Triangles
returns-in-Err-Triangles g c = record {
  ends =
      too_many c.args.file.now c.args.name.now c.args.layer c.too_many_triangles.result _ _ c.refuse.result
      (c.in-Err-Triangles.ensures.many (ap (λ fault. Err fault) c.in-Err-Triangles.field-0-is)) c.too_many_triangles.ensures (c.refuse.ensures.ends _);
}

pub returns-in-Err-NoMemory : goal.returns-in-Err-NoMemory
returns-in-Err-NoMemory g c = record { ends = unwritten (draw_outcome c.args.file.now c.args.name.now c.args.layer) _ }
