use Rattle.std.proofs.Common.{rules, arith, refl, sym, ap, ◌≡◌, ◌≢◌, ◌∙◌, ◌+◌, ◌*◌, ◌<◌, false, true, get_or, length, pos, w64}
use Rattle.std.proofs.lemmas.Int.{ints, to_z-of_z}
use Rattle.std.proofs.lemmas.List.{get_or_default}
use Rattle.hd_picture.specs.declared.define.pixels.Fragment.{Fragment}
use Rattle.hd_picture.specs.declared.define.view.ScreenPoint.{ScreenPoint}
use Rattle.hd_picture.specs.define.Pixels.{fragment}
use Rattle.hd_picture.specs.inner.DepthBuffer.{background, depth_test}
use Rattle.hd_picture.specs.inner.Window.{pixel_center_at}
use Rattle.hd_picture.proofs.TileLemmas.{IsPixelRasterized, by_lt, pixel_kept, pixel_set}
use Rattle.hd_picture.proofs.CrossProduct.{read}
use Rattle.hd_picture.proofs.TriangleSetupLemmas.{edge_values_in_reach}
use Rattle.hd_picture.proofs.EdgeValueLemmas.{edge_values_next, visible_is, hidden_is}
use Rattle.hd_picture.proofs.Offsets.{tile_center_is, center_right}
use Rattle.hd_picture.proofs.raster.rasterize.rasterize_crossed_row.Goals as goal
use Rattle.hd_picture.proofs.raster.rasterize.rasterize_crossed_row.Goals.{then-is_visible, else-is_visible}

pub next_edge_values-at-requires-clause-area : goal.next_edge_values-at-requires-clause-area
next_edge_values-at-requires-clause-area c =
    let counter_clockwise = c.requires.setup.counter_clockwise in
    let most = c.requires.setup.most in
    omega (arith, ints)

pub next_edge_values-at-requires-clause-at : goal.next_edge_values-at-requires-clause-at
next_edge_values-at-requires-clause-at c =
    let counter_clockwise = c.requires.setup.counter_clockwise in
    let most = c.requires.setup.most in
    let area : read c.args.setup.area ≡ c.args.setup.area = omega (arith, ints) in
    let reach = c.loop-x.invariant.reach in
    rw area
    (edge_values_in_reach c.args.eye c.args.tri.now c.args.setup.area c.args.window c.loop-x.x c.args.row c.loop-x.at c.requires.eye c.requires.corners c.requires.window (omega arith) (omega arith)
    c.loop-x.invariant.values (record { low = omega (arith, ints); high = omega (arith, ints) }))

abbrev zeros : Fragment
zeros = record { depth = pos 0; color = record { r = 0; g = 0; b = 0 } }

-- the pixel of this turn
pixel : (c : goal.After-next_edge_values-at) → IsPixelRasterized (c.args.row * 16 + c.loop-x.x) (fragment c.args.eye (pixel_center_at c.args.window c.loop-x.x c.args.row) c.args.tri.now) c.loop-x.depth_buffer c.if-is_visible.depth_buffer
pixel c =
    let i = c.args.row * 16 + c.loop-x.x in
    let q = pixel_center_at c.args.window c.loop-x.x c.args.row in
    let reach = c.loop-x.invariant.reach in
    let z : read c.args.eye.z ≡ c.args.eye.z = omega (arith, ints) in
    let whole : read c.loop-x.at.depth.whole ≡ c.loop-x.at.depth.whole = omega (arith, ints) in
    let within : i < length c.loop-x.depth_buffer = omega arith in
    let depth : read (get_or c.loop-x.depth_buffer i zeros).depth ≡ (get_or c.loop-x.depth_buffer i zeros).depth = to_z-of_z w64 (get_or c.loop-x.depth_buffer i zeros).depth (search rules) in
    let same : (get_or c.loop-x.depth_buffer i zeros).depth ≡ (get_or c.loop-x.depth_buffer i background).depth = ap (λ (f : Fragment). f.depth) (get_or_default c.loop-x.depth_buffer i zeros background within) in
    elim c.if-is_visible.branch [
      | then-is_visible w ↦ pixel_set i _ _ _ _ within w.depth_buffer-is (rw whole (visible_is c.args.eye c.args.tri.now c.args.setup.area q c.loop-x.at c.requires.setup.counter_clockwise (c.requires.setup.area q) c.loop-x.invariant.values _ (rw (z, depth, same) at (w.if-is_visible.ensures.0 refl))))
      | else-is_visible w ↦ pixel_kept i _ _ _ w.depth_buffer-is (hidden_is c.args.eye c.args.tri.now c.args.setup.area q c.loop-x.at c.requires.setup.counter_clockwise (c.requires.setup.area q) c.loop-x.invariant.values _ (λ s. let back = rw (z, depth, same) at w.if-is_visible.ensures in let no : false ≡ true = back.1 s in cc))
    ]

pub loop-x-preserved : goal.loop-x-preserved
loop-x-preserved c =
    let i = c.args.row * 16 + c.loop-x.x in
    let counter_clockwise = c.requires.setup.counter_clockwise in
    let most = c.requires.setup.most in
    let area : read c.args.setup.area ≡ c.args.setup.area = omega (arith, ints) in
    let before = c.loop-x.invariant in
    let this = pixel c in
    record {
      values = edge_values_next c.args.eye c.args.tri.now c.args.setup.area (pixel_center_at c.args.window c.loop-x.x c.args.row) (pixel_center_at c.args.window (c.loop-x.x + 1) c.args.row) _
          c.loop-x.at c.args.setup.right c.next_edge_values-at.result before.values c.requires.setup.right c.next_edge_values-at.ensures.weights (rw area at c.next_edge_values-at.ensures.depth)
          (center_right c.args.window c.loop-x.x c.args.row);
      reach = (let near = c.next_edge_values-at.ensures.depth.near in let reach = before.reach in record { low = omega (arith, ints); high = omega (arith, ints) });
      done = λ k l m. by_lt k i
          (λ h. let ne : k ≢ i = omega arith in this.elsewhere k ne ∙ before.done k l h)
          (λ h. let same : k ≡ i = omega arith in
          rw same
          (this.at_place
          ∙ ap (λ (held : Fragment). depth_test held (fragment c.args.eye (pixel_center_at c.args.window c.loop-x.x c.args.row) c.args.tri.now)) (before.untouched i (omega arith))
          ∙ ap (λ (q : ScreenPoint). depth_test (get_or c.args.depth_buffer.now i background) (fragment c.args.eye q c.args.tri.now)) (sym (tile_center_is c.args.window i c.loop-x.x c.args.row refl c.loop-x-test.true))));
      above = λ k h. let ne : k ≢ i = omega arith in this.elsewhere k ne ∙ before.above k h;
      untouched = λ k h. let ne : k ≢ i = omega arith in this.elsewhere k ne ∙ before.untouched k (omega arith);
      unchanged = λ e. elim c.if-is_visible.branch [
        | then-is_visible w ↦ absurd (let clash : true ≡ false = sym w.changed-is ∙ e in cc)
        | else-is_visible w ↦ w.depth_buffer-is ∙ before.unchanged (sym w.changed-is ∙ e)
      ];
    }

pub returns-clause-rasterized : goal.returns-clause-rasterized
returns-clause-rasterized c = record {
  rasterized = λ k l m. c.loop-x.invariant.done k l (omega arith);
  above = λ k l. c.loop-x.invariant.above k l;
  below = λ k l. c.loop-x.invariant.untouched k (omega arith);
}
