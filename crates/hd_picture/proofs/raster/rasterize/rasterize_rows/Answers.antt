use Rattle.std.proofs.Common.{arith, sym, ◌≡◌, ◌∙◌, ◌+◌, false, true}
use Rattle.std.proofs.lemmas.Int.{ints}
use Rattle.hd_picture.specs.inner.Window.{pixel_center_at}
use Rattle.hd_picture.proofs.TileLemmas.{rows_more}
use Rattle.hd_picture.proofs.CrossProduct.{read}
use Rattle.hd_picture.proofs.TriangleSetupLemmas.{edge_values_in_reach}
use Rattle.hd_picture.proofs.EdgeValueLemmas.{edge_values_next}
use Rattle.hd_picture.proofs.Offsets.{center_below}
use Rattle.hd_picture.proofs.raster.rasterize.rasterize_rows.Goals as goal
use Rattle.hd_picture.proofs.raster.rasterize.rasterize_rows.Goals.{then-rasterize_row, else-rasterize_row}

pub next_edge_values-at-requires-clause-area : goal.next_edge_values-at-requires-clause-area
next_edge_values-at-requires-clause-area c =
    let counter_clockwise = c.requires.setup.counter_clockwise in
    let most = c.requires.setup.most in
    omega (arith, ints)

pub next_edge_values-at-requires-clause-at : goal.next_edge_values-at-requires-clause-at
next_edge_values-at-requires-clause-at c =
    let counter_clockwise = c.requires.setup.counter_clockwise in
    let most = c.requires.setup.most in
    let area : read c.args.setup.area ≡ c.args.setup.area = omega (arith, ints) in
    let reach = c.loop-row.invariant.reach in
    rw area
    (edge_values_in_reach c.args.eye c.args.tri.now c.args.setup.area c.args.window 0 c.loop-row.row c.loop-row.at c.requires.eye c.requires.corners c.requires.window (omega arith) (omega arith)
    c.loop-row.invariant.values (record { low = omega (arith, ints); high = omega (arith, ints) }))

pub loop-row-preserved : goal.loop-row-preserved
loop-row-preserved c =
    let counter_clockwise = c.requires.setup.counter_clockwise in
    let most = c.requires.setup.most in
    let area : read c.args.setup.area ≡ c.args.setup.area = omega (arith, ints) in
    let before = c.loop-row.invariant in
    record {
      values = edge_values_next c.args.eye c.args.tri.now c.args.setup.area (pixel_center_at c.args.window 0 c.loop-row.row) (pixel_center_at c.args.window 0 (c.loop-row.row + 1)) _
          c.loop-row.at c.args.setup.down c.next_edge_values-at.result before.values c.requires.setup.down c.next_edge_values-at.ensures.weights (rw area at c.next_edge_values-at.ensures.depth)
          (center_below c.args.window 0 c.loop-row.row);
      reach = (let near = c.next_edge_values-at.ensures.depth.near in let reach = before.reach in record { low = omega (arith, ints); high = omega (arith, ints) });
      rows = rows_more c.args.eye c.args.window c.args.tri.now c.loop-row.row c.args.depth_buffer.now c.loop-row.depth_buffer c.rasterize_row.new.depth_buffer before.rows c.rasterize_row.ensures.rasterized;
      unchanged = λ e. elim c.if-rasterize_row.branch [
        | then-rasterize_row w ↦ absurd (let clash : true ≡ false = sym w.changed-is ∙ e in cc)
        | else-rasterize_row w ↦ c.rasterize_row.ensures.unchanged w.if-rasterize_row.false ∙ before.unchanged (sym w.changed-is ∙ e)
      ];
    }
