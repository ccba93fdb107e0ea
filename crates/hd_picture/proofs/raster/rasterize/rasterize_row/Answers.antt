use Rattle.std.proofs.Common.{arith, refl, sym, subst}
use Rattle.hd_picture.specs.inner.Coverage.{IsSmall}
use Rattle.hd_picture.specs.inner.Window.{pixel_center_at}
use Rattle.hd_picture.proofs.TriangleSetupLemmas.{screen_small}
use Rattle.hd_picture.proofs.RowEnds.{row_covered, row_missed, row_outside}
use Rattle.hd_picture.proofs.Offsets.{center_at_near}
use Rattle.hd_picture.proofs.raster.rasterize.rasterize_row.Goals as goal

pub weights_at_row_end-last-requires-clause-at : goal.weights_at_row_end-last-requires-clause-at
weights_at_row_end-last-requires-clause-at c =
    subst IsSmall (sym c.requires.start.weights)
    (screen_small c.args.eye c.args.tri.now (pixel_center_at c.args.window 0 c.args.row) c.requires.eye c.requires.corners (center_at_near c.args.window 0 c.args.row c.requires.window (omega arith) (omega arith)))

pub returns-then-is_row_outside-clause-rasterized : goal.returns-then-is_row_outside-clause-rasterized
returns-then-is_row_outside-clause-rasterized c =
    let first = c.requires.start.weights in
    let out = rw (c.weights_at_row_end-last.ensures, first) at (c.if-is_row_outside.ensures.0 refl) in
    row_missed c.args.depth_buffer.now c.args.eye c.args.window c.args.tri.now c.args.row c.args.setup.area c.requires.setup.counter_clockwise c.requires.setup.area
    (row_outside c.args.eye c.args.tri.now c.args.setup.area c.args.window c.args.row c.args.setup.right c.requires.setup.right out)

pub rasterize_covered_row-requires-clause-covered : goal.rasterize_covered_row-requires-clause-covered
rasterize_covered_row-requires-clause-covered c =
    let first = c.requires.start.weights in
    let start = rw first at (c.if-is_inside.ensures.0 refl) in
    let last = rw (c.weights_at_row_end-last.ensures, first) at (c.if-is_inside-2.ensures.0 refl) in
    row_covered c.args.eye c.args.tri.now c.args.setup.area c.args.window c.args.row c.args.setup.right c.requires.setup.right start last

pub rasterize_covered_row-requires-clause-start : goal.rasterize_covered_row-requires-clause-start
rasterize_covered_row-requires-clause-start c = record { value = c.requires.start.value; remainder = c.requires.start.remainder }
