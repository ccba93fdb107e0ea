use Rattle.std.proofs.Common.{rules, ◌≡◌, ◌∙◌, w64}
use Rattle.std.proofs.lemmas.Int.{to_z-of_z}
use Rattle.hd_picture.specs.inner.EdgeStepping.{IsStepWeights}
use Rattle.hd_picture.proofs.CrossProduct.{read}
use Rattle.hd_picture.proofs.EdgeValueLemmas.{step_is}
use Rattle.hd_picture.proofs.Offsets.{are_edges, change}
use Rattle.hd_picture.proofs.raster.edge_stepping.edge_step.Goals as goal

pub weight_change-requires-clause-edge : goal.weight_change-requires-clause-edge
weight_change-requires-clause-edge c = (are_edges c.args.eye c.args.tri.now c.args.screen c.requires.screen c.requires.corners).bc

pub weight_change-requires-2-clause-edge : goal.weight_change-requires-2-clause-edge
weight_change-requires-2-clause-edge c = (are_edges c.args.eye c.args.tri.now c.args.screen c.requires.screen c.requires.corners).ca

pub weight_change-requires-3-clause-edge : goal.weight_change-requires-3-clause-edge
weight_change-requires-3-clause-edge c = (are_edges c.args.eye c.args.tri.now c.args.screen c.requires.screen c.requires.corners).ab

pub returns : goal.returns
returns c =
    let a : read c.weight_change.result ≡ c.weight_change.result = to_z-of_z w64 c.weight_change.result (search rules) in
    let b : read c.weight_change-2.result ≡ c.weight_change-2.result = to_z-of_z w64 c.weight_change-2.result (search rules) in
    let d : read c.weight_change-3.result ≡ c.weight_change-3.result = to_z-of_z w64 c.weight_change-3.result (search rules) in
    let weights : record { a = read c.weight_change.result; b = read c.weight_change-2.result; c = read c.weight_change-3.result } ≡ change c.args.screen.a c.args.screen.b c.args.screen.c c.args.offset =
    rw (a, b, d, c.weight_change.ensures.value, c.weight_change-2.ensures.value, c.weight_change-3.ensures.value) in
    let area : read c.args.area ≡ c.args.area = to_z-of_z w64 c.args.area c.ranges.area in
    let sum = to_z-of_z w64 c.narrow_sum.result (search rules) ∙ c.narrow_sum.ensures.value in
    let depth = rw (sum, area) at c.depth_step.ensures in
    let small : IsStepWeights (record { a = read c.weight_change.result; b = read c.weight_change-2.result; c = read c.weight_change-3.result }) =
    rw (a, b, d) (record { a = c.weight_change.ensures.small; b = c.weight_change-2.ensures.small; c = c.weight_change-3.ensures.small }) in
    step_is c.args.eye c.args.tri.now c.args.screen c.args.area c.args.offset _ c.requires.screen weights small depth
