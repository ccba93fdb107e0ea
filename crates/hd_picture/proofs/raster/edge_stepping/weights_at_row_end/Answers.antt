use Rattle.hd_picture.proofs.RowEnds.{after_read}
use Rattle.hd_picture.proofs.raster.edge_stepping.weights_at_row_end.Goals as goal

pub returns : goal.returns
returns c =
    let h = c.requires.at in
    let k = c.requires.step in
    rw (after_read c.args.at.a c.args.step.a h.a k.a, after_read c.args.at.b c.args.step.b h.b k.b, after_read c.args.at.c c.args.step.c h.c k.c)
