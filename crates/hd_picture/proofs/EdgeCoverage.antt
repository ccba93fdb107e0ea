-- A triangle with an area covers its edges.
use Rattle.std.proofs.Common.{◌≡◌, ◌≢◌, ◌⊎◌, inl, inr, arith, ap, refl, sym, ◌∙◌, true, ℤ, pos, ◌-ℤ◌, ◌*ℤ◌, neg_ℤ, ◌≤ℤ◌, ◌<ℤ◌}
use Rattle.std.specs.Int.{int_max, int_min}
use Rattle.std.proofs.lemmas.Int.{by_lt_z, clamps, ints}
use borrow.Author.Differences.{at_most_in, le_out, same_in, same_out, sum_is_lem, neg_is, product_is}
use lib.IntN.{*ℤ_comm, zero-*ℤ, *ℤ-zero}
use Rattle.hd_picture.specs.declared.define.view.ScreenPoint.{ScreenPoint}
use Rattle.hd_picture.specs.Laws.{IsInEdgeBounds}
use Rattle.hd_picture.specs.define.Coverage.{covers, edge, total, weights}
use Rattle.hd_picture.proofs.CoverageLemmas.{covers_non_negative, covers_non_positive}
use Rattle.hd_picture.proofs.Integers.{mul-le-mul, mul-le_cancel, mul-sub, neg-mul, sub-mul, triple_is}

-- w is between 0 and t, on either side
abbrev Between : (w t : ℤ) → Type 0
Between w t = (pos 0 ≤ℤ w) × (w ≤ℤ t) ⊎ (t ≤ℤ w) × (w ≤ℤ pos 0)

-- w is the same part of t as v of u
part_forward : (w t u v : ℤ) → pos 0 <ℤ u → pos 0 ≤ℤ v → v ≤ℤ u → u *ℤ w ≡ t *ℤ v → Between w t
part_forward w t u v hu hv hvu e =
    by_lt_z t (pos 0)
    (λ l.
    let more : (neg_ℤ t *ℤ v) ≤ℤ (neg_ℤ t *ℤ u) = mul-le-mul (neg_ℤ t) v u (omega (arith, ints)) hvu in
    let some : (neg_ℤ t *ℤ pos 0) ≤ℤ (neg_ℤ t *ℤ v) = mul-le-mul (neg_ℤ t) (pos 0) v (omega (arith, ints)) hv in
    let none = *ℤ-zero (neg_ℤ t) in
    let background = *ℤ-zero u in
    let nv = neg-mul t v in
    let nu = neg-mul t u in
    let turn = *ℤ_comm t u in
    inr (
      mul-le_cancel u t w hu (omega (arith, at_most_in, le_out, same_out, sum_is_lem, neg_is)),
      mul-le_cancel u w (pos 0) hu (omega (arith, at_most_in, le_out, same_out, sum_is_lem, neg_is)),
    ))
    (λ l.
    let more : (t *ℤ v) ≤ℤ (t *ℤ u) = mul-le-mul t v u l hvu in
    let some : (t *ℤ pos 0) ≤ℤ (t *ℤ v) = mul-le-mul t (pos 0) v l hv in
    let none = *ℤ-zero t in
    let background = *ℤ-zero u in
    let turn = *ℤ_comm t u in
    inl (
      mul-le_cancel u (pos 0) w hu (omega (arith, at_most_in, le_out, same_out, sum_is_lem, neg_is)),
      mul-le_cancel u w t hu (omega (arith, at_most_in, le_out, same_out, sum_is_lem, neg_is)),
    ))

part_backward : (w t u v : ℤ) → u <ℤ pos 0 → v ≤ℤ pos 0 → u ≤ℤ v → u *ℤ w ≡ t *ℤ v → Between w t
part_backward w t u v hu hv hvu e =
    part_forward w t (neg_ℤ u) (neg_ℤ v) (omega (arith, ints)) (omega (arith, ints)) (omega (arith, ints))
    (neg-mul u w ∙ ap neg_ℤ (e ∙ *ℤ_comm t v) ∙ sym (neg-mul v t) ∙ *ℤ_comm (neg_ℤ v) t)

-- q is between the ends a and b
record IsPart (a b q : ℤ) : Type 0 where
  low : int_min a b ≤ℤ q
  high : q ≤ℤ int_max a b

part : (w t a b q : ℤ) → b -ℤ a ≢ pos 0 → (b -ℤ a) *ℤ w ≡ t *ℤ (q -ℤ a) → IsPart a b q → Between w t
part w t a b q apart e h =
    by_lt_z (b -ℤ a) (pos 0)
    (λ l. part_backward w t (b -ℤ a) (q -ℤ a) l (omega (arith, ints, clamps)) (omega (arith, ints, clamps)) e)
    (λ l. part_forward w t (b -ℤ a) (q -ℤ a) (omega (arith, ints)) (omega (arith, ints, clamps)) (omega (arith, ints, clamps)) e)

-- by the offsets from a: u to b, v to q and t to c
ring_x : (ux uy vx vy tx ty : ℤ) → (vx *ℤ ty -ℤ vy *ℤ tx) *ℤ ux ≡ (ux *ℤ ty -ℤ uy *ℤ tx) *ℤ vx -ℤ (ux *ℤ vy -ℤ uy *ℤ vx) *ℤ tx
ring_x ux uy vx vy tx ty = simp sub-mul (omega (arith, same_in, sum_is_lem, neg_is, triple_is))

ring_y : (ux uy vx vy tx ty : ℤ) → (vx *ℤ ty -ℤ vy *ℤ tx) *ℤ uy ≡ (ux *ℤ ty -ℤ uy *ℤ tx) *ℤ vy -ℤ (ux *ℤ vy -ℤ uy *ℤ vx) *ℤ ty
ring_y ux uy vx vy tx ty = simp sub-mul (omega (arith, same_in, sum_is_lem, neg_is, triple_is))

pub edge_def : (a b q : ScreenPoint) → edge a b q ≡ (b.x -ℤ a.x) *ℤ (q.y -ℤ a.y) -ℤ (b.y -ℤ a.y) *ℤ (q.x -ℤ a.x)
unfolding edge
edge_def a b q = refl

ap4 : {a b c d x y z w : ℤ} → a ≡ x → b ≡ y → c ≡ z → d ≡ w → a *ℤ b -ℤ c *ℤ d ≡ x *ℤ y -ℤ z *ℤ w
ap4 p q r s = cc

less_nothing : (m n t : ℤ) → n ≡ pos 0 → m -ℤ n *ℤ t ≡ m
less_nothing m n t e = rw (e, zero-*ℤ t) (omega (arith, ints))

next_edge : (a c q : ScreenPoint) → edge c a q ≡ (q.x -ℤ a.x) *ℤ (c.y -ℤ a.y) -ℤ (q.y -ℤ a.y) *ℤ (c.x -ℤ a.x)
unfolding edge
next_edge a c q = ring a.x a.y c.x c.y q.x q.y
  where
    ring : (ax ay cx cy qx qy : ℤ)
        → (ax -ℤ cx) *ℤ (qy -ℤ cy) -ℤ (ay -ℤ cy) *ℤ (qx -ℤ cx)
        ≡ (qx -ℤ ax) *ℤ (cy -ℤ ay) -ℤ (qy -ℤ ay) *ℤ (cx -ℤ ax)
    ring ax ay cx cy qx qy = simp (sub-mul, mul-sub) (omega (arith, same_in, sum_is_lem, neg_is, product_is))

-- the offsets from a: u to b, v to q and t to c
ring_first : (ux uy vx vy tx ty : ℤ)
    → (tx -ℤ ux) *ℤ (vy -ℤ uy) -ℤ (ty -ℤ uy) *ℤ (vx -ℤ ux)
    ≡ (ux *ℤ ty -ℤ uy *ℤ tx) -ℤ (ux *ℤ vy -ℤ uy *ℤ vx) -ℤ (vx *ℤ ty -ℤ vy *ℤ tx)
ring_first ux uy vx vy tx ty = simp (sub-mul, mul-sub) (omega (arith, same_in, sum_is_lem, neg_is, product_is))

first_edge : (a b c q : ScreenPoint) → edge b c q ≡ ((b.x -ℤ a.x) *ℤ (c.y -ℤ a.y) -ℤ (b.y -ℤ a.y) *ℤ (c.x -ℤ a.x)) -ℤ edge a b q -ℤ edge c a q
first_edge a b c q =
    from_a
    ∙ ring_first (b.x -ℤ a.x) (b.y -ℤ a.y) (q.x -ℤ a.x) (q.y -ℤ a.y) (c.x -ℤ a.x) (c.y -ℤ a.y)
    ∙ sym (rw (edge_def a b q, next_edge a c q))
  where
    offset : (x y z : ℤ) → y -ℤ x ≡ (y -ℤ z) -ℤ (x -ℤ z)
    offset x y z = omega (arith, same_in, sum_is_lem, neg_is)

    from_a : edge b c q ≡ ((c.x -ℤ a.x) -ℤ (b.x -ℤ a.x)) *ℤ ((q.y -ℤ a.y) -ℤ (b.y -ℤ a.y)) -ℤ ((c.y -ℤ a.y) -ℤ (b.y -ℤ a.y)) *ℤ ((q.x -ℤ a.x) -ℤ (b.x -ℤ a.x))
    from_a = edge_def b c q ∙ ap4 (offset b.x c.x a.x) (offset b.y q.y a.y) (offset b.y c.y a.y) (offset b.x q.x a.x)

-- the doubled area does not depend on the point
pub total-weights : (a b c q : ScreenPoint) → total (weights a b c q) ≡ (b.x -ℤ a.x) *ℤ (c.y -ℤ a.y) -ℤ (b.y -ℤ a.y) *ℤ (c.x -ℤ a.x)
total-weights a b c q = let first = first_edge a b c q in omega (arith, same_in, same_out, sum_is_lem, neg_is)

module _ (a b c q : ScreenPoint) (on_edge : edge a b q ≡ pos 0) where
  cross_nothing : (b.x -ℤ a.x) *ℤ (q.y -ℤ a.y) -ℤ (b.y -ℤ a.y) *ℤ (q.x -ℤ a.x) ≡ pos 0
  cross_nothing = sym (edge_def a b q) ∙ on_edge

  part_x : (b.x -ℤ a.x) *ℤ edge c a q ≡ total (weights a b c q) *ℤ (q.x -ℤ a.x)
  part_x =
      *ℤ_comm (b.x -ℤ a.x) (edge c a q)
      ∙ ap (λ z. z *ℤ (b.x -ℤ a.x)) (next_edge a c q)
      ∙ ring_x (b.x -ℤ a.x) (b.y -ℤ a.y) (q.x -ℤ a.x) (q.y -ℤ a.y) (c.x -ℤ a.x) (c.y -ℤ a.y)
      ∙ less_nothing _ _ (c.x -ℤ a.x) cross_nothing
      ∙ ap (λ z. z *ℤ (q.x -ℤ a.x)) (sym (total-weights a b c q))

  part_y : (b.y -ℤ a.y) *ℤ edge c a q ≡ total (weights a b c q) *ℤ (q.y -ℤ a.y)
  part_y =
      *ℤ_comm (b.y -ℤ a.y) (edge c a q)
      ∙ ap (λ z. z *ℤ (b.y -ℤ a.y)) (next_edge a c q)
      ∙ ring_y (b.x -ℤ a.x) (b.y -ℤ a.y) (q.x -ℤ a.x) (q.y -ℤ a.y) (c.x -ℤ a.x) (c.y -ℤ a.y)
      ∙ less_nothing _ _ (c.y -ℤ a.y) cross_nothing
      ∙ ap (λ z. z *ℤ (q.y -ℤ a.y)) (sym (total-weights a b c q))

  no_edge : b.x -ℤ a.x ≡ pos 0 → b.y -ℤ a.y ≡ pos 0 → total (weights a b c q) ≡ pos 0
  no_edge ex ey = total-weights a b c q ∙ (rw (ex, ey, zero-*ℤ (c.y -ℤ a.y), zero-*ℤ (c.x -ℤ a.x)))

  covers_between : total (weights a b c q) ≢ pos 0 → Between (edge c a q) (total (weights a b c q)) → covers (weights a b c q) ≡ true
  covers_between apart (inl h) =
      let low = h.0 in
      let high = h.1 in
      covers_non_negative (weights a b c q) (record { a = omega (arith, ints); b = omega (arith, ints); c = omega (arith, ints); area = omega (arith, ints) })
  covers_between apart (inr h) =
      let low = h.0 in
      let high = h.1 in
      covers_non_positive (weights a b c q) (record { a = omega (arith, ints); b = omega (arith, ints); c = omega (arith, ints); area = omega (arith, ints) })

  pub covers_edge : total (weights a b c q) ≢ pos 0 → IsInEdgeBounds a b q → covers (weights a b c q) ≡ true
  covers_edge apart h =
      by_lt_z (b.x -ℤ a.x) (pos 0) (λ l. along_x (omega (arith, ints)))
      (λ l. by_lt_z (pos 0) (b.x -ℤ a.x) (λ m. along_x (omega (arith, ints)))
      (λ m. by_lt_z (b.y -ℤ a.y) (pos 0) (λ n. along_y (omega (arith, ints)))
      (λ n. by_lt_z (pos 0) (b.y -ℤ a.y) (λ o. along_y (omega (arith, ints)))
      (λ o. absurd (apart (no_edge (omega (arith, ints)) (omega (arith, ints))))))))
    where
      along_x : b.x -ℤ a.x ≢ pos 0 → covers (weights a b c q) ≡ true
      along_x some = covers_between apart (part (edge c a q) (total (weights a b c q)) a.x b.x q.x some part_x (record { low = h.left; high = h.right }))

      along_y : b.y -ℤ a.y ≢ pos 0 → covers (weights a b c q) ≡ true
      along_y some = covers_between apart (part (edge c a q) (total (weights a b c q)) a.y b.y q.y some part_y (record { low = h.bottom; high = h.top }))
