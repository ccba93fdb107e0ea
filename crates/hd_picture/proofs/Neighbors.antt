-- Two triangles with an edge in common, one on each side of it.
use Rattle.std.proofs.Common.{◌≡◌, ◌⊎◌, inl, inr, arith, ◌∙◌, sym, true, pos, ◌<ℤ◌}
use Rattle.std.proofs.lemmas.Int.{by_lt_z, ints}
use Rattle.hd_picture.specs.declared.define.view.ScreenPoint.{ScreenPoint}
use Rattle.hd_picture.specs.Laws.{FitsAtEdge}
use Rattle.hd_picture.specs.define.Coverage.{covers, edge, total, weights}
use Rattle.hd_picture.proofs.CornerOrder.{edge-swap}
use Rattle.hd_picture.proofs.CoverageLemmas.{IsNonPositive, covers_cases, covers_non_negative}
use Rattle.hd_picture.proofs.EdgeCoverage.{edge_def, total-weights}
use Rattle.hd_picture.proofs.FloorDivision.{IsNonNegative}

pub weights_add_up : (a b c q : ScreenPoint) → total (weights a b c q) ≡ edge a b c
weights_add_up a b c q = total-weights a b c q ∙ sym (edge_def a b c)

-- what a counter-clockwise triangle covers is on no outer side of its edges
non_negative_of : (a b c q : ScreenPoint) → pos 0 <ℤ edge a b c → covers (weights a b c q) ≡ true → IsNonNegative (weights a b c q)
non_negative_of a b c q turn h = by (covers_cases (weights a b c q) h)
  where
    by : IsNonNegative (weights a b c q) ⊎ IsNonPositive (weights a b c q) → IsNonNegative (weights a b c q)
    by (inl l) = l
    by (inr r) = let sum = weights_add_up a b c q in let no = r.area in absurd (omega (arith, ints))

pub neighbours_fit : (a b c d q : ScreenPoint) → pos 0 <ℤ edge a b c → pos 0 <ℤ edge a c d → FitsAtEdge a b c d q
neighbours_fit a b c d q abc acd =
    let swap = edge-swap c a q in
    let first = weights_add_up a b c q in
    let second = weights_add_up a c d q in
    record {
      no_gap = λ ab bc cd da. by_lt_z (edge c a q) (pos 0)
          (λ l. inr (covers_non_negative (weights a c d q) (record { a = cd; b = da; c = omega (arith, ints); area = omega (arith, ints) })))
          (λ l. inl (covers_non_negative (weights a b c q) (record { a = bc; b = l; c = ab; area = omega (arith, ints) })));
      no_overlap = λ f s.
          let one = (non_negative_of a b c q abc f).b in
          let other = (non_negative_of a c d q acd s).c in
          omega (arith, ints);
    }
