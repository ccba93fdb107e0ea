-- What covering means for the three weights, and what a triangle shows.
use Rattle.std.proofs.Common.{◌≡◌, ◌≢◌, ◌⊎◌, inl, inr, arith, refl, sym, ◌∙◌, Bool, true, false, cond, ◌&&◌, ◌||◌, pos, ◌+ℤ◌, ◌*ℤ◌, neg_ℤ, ◌≤ℤ◌, ◌<ℤ◌, int_le, int_lt, None, Some}
use Rattle.std.proofs.lemmas.Int.{ints}
use borrow.Author.Differences.{same_in, sum_is_lem, neg_is}
use Rattle.hd_num.specs.declared.vector.Vec3.{Vec3}
use Rattle.hd_picture.specs.declared.draws.WorldTri.{WorldTri}
use Rattle.hd_picture.specs.declared.define.coverage.Weights.{Weights}
use Rattle.hd_picture.specs.declared.define.view.ScreenPoint.{ScreenPoint}
use Rattle.hd_picture.specs.define.Coverage.{covers, screen_weights, total}
use Rattle.hd_picture.specs.define.Depth.{depth}
use Rattle.hd_picture.specs.define.Pixels.{fragment}
use Rattle.hd_picture.specs.inner.Coverage.{IsCounterClockwise, IsCounterClockwiseOf, IsSmall}
use Rattle.hd_picture.specs.inner.Pixels.{fragment_by}
use Rattle.hd_picture.proofs.FloorDivision.{IsNonNegative, floor_both_signs}
use Rattle.hd_picture.proofs.Integers.{neg-mul}

and_parts : (a b : Bool) → a && b ≡ true → (a ≡ true) × (b ≡ true)
and_parts true b h = (refl, h)
and_parts false b h = cc

or_parts : (a b : Bool) → a || b ≡ true → (a ≡ true) ⊎ (b ≡ true)
or_parts true b h = inl refl
or_parts false b h = inr h

or_left : (a b : Bool) → a ≡ true → a || b ≡ true
or_left a b h = rw h

or_right : (a b : Bool) → b ≡ true → a || b ≡ true
or_right true b h = refl
or_right false b h = h

-- no weight is above 0
pub record IsNonPositive (w : Weights) : Type 0 where
  pub a : w.a ≤ℤ pos 0
  pub b : w.b ≤ℤ pos 0
  pub c : w.c ≤ℤ pos 0
  pub area : total w <ℤ pos 0

pub covers_non_negative : (w : Weights) → IsNonNegative w → covers w ≡ true
unfolding covers
covers_non_negative w h =
    let a : true ≡ int_le (pos 0) w.a = omega (arith, ints) in
    let b : true ≡ int_le (pos 0) w.b = omega (arith, ints) in
    let c : true ≡ int_le (pos 0) w.c = omega (arith, ints) in
    let area : true ≡ int_lt (pos 0) (total w) = omega (arith, ints) in
    rw (or_right (int_lt (total w) (pos 0)) (int_lt (pos 0) (total w)) (sym area), sym a, sym b, sym c)

pub covers_non_positive : (w : Weights) → IsNonPositive w → covers w ≡ true
unfolding covers
covers_non_positive w h =
    let a : true ≡ int_le w.a (pos 0) = omega (arith, ints) in
    let b : true ≡ int_le w.b (pos 0) = omega (arith, ints) in
    let c : true ≡ int_le w.c (pos 0) = omega (arith, ints) in
    let area : true ≡ int_lt (total w) (pos 0) = omega (arith, ints) in
    rw (or_left (int_lt (total w) (pos 0)) (int_lt (pos 0) (total w)) (sym area), sym a, sym b, sym c)
    (or_right (int_le (pos 0) w.a && int_le (pos 0) w.b && int_le (pos 0) w.c) true refl)

pub covers_cases : (w : Weights) → covers w ≡ true → IsNonNegative w ⊎ IsNonPositive w
unfolding covers
covers_cases w h = by (or_parts _ _ (and_parts _ _ h).1)
  where
    apart : total w ≢ pos 0
    apart e = by_area (or_parts _ _ (and_parts _ _ h).0)
      where
        by_area : (int_lt (total w) (pos 0) ≡ true) ⊎ (int_lt (pos 0) (total w) ≡ true) → ⊥
        by_area (inl t) = omega (arith, ints)
        by_area (inr t) = omega (arith, ints)

    by : (int_le (pos 0) w.a && int_le (pos 0) w.b && int_le (pos 0) w.c ≡ true) ⊎ (int_le w.a (pos 0) && int_le w.b (pos 0) && int_le w.c (pos 0) ≡ true) → IsNonNegative w ⊎ IsNonPositive w
    by (inl t) =
        let n : total w ≢ pos 0 = apart in
        let p = and_parts _ _ t in
        let q = and_parts _ _ p.0 in
        let a : int_le (pos 0) w.a ≡ true = q.0 in
        let b : int_le (pos 0) w.b ≡ true = q.1 in
        let c : int_le (pos 0) w.c ≡ true = p.1 in
        inl (record { a = omega (arith, ints); b = omega (arith, ints); c = omega (arith, ints); area = omega (arith, ints) })
    by (inr t) =
        let n : total w ≢ pos 0 = apart in
        let p = and_parts _ _ t in
        let q = and_parts _ _ p.0 in
        let a : int_le w.a (pos 0) ≡ true = q.0 in
        let b : int_le w.b (pos 0) ≡ true = q.1 in
        let c : int_le w.c (pos 0) ≡ true = p.1 in
        inr (record { a = omega (arith, ints); b = omega (arith, ints); c = omega (arith, ints); area = omega (arith, ints) })

-- what a triangle shows where it covers, and where it does not
pub fragment_is : (eye : Vec3) (q : ScreenPoint) (tri : WorldTri) → fragment eye q tri ≡ cond (covers (screen_weights eye tri q)) (fragment_by (screen_weights eye tri q) tri eye.z) None
unfolding fragment
fragment_is eye q tri = by (covers (screen_weights eye tri q))
  where
    w : Weights
    w = screen_weights eye tri q

    by : (t : Bool) → cond (t && int_le (depth w tri) eye.z) (Some (record { depth = depth w tri; color = tri.color })) None ≡ cond t (fragment_by w tri eye.z) None
    by true = refl
    by false = refl

pub fragment_none : (eye : Vec3) (q : ScreenPoint) (tri : WorldTri) → covers (screen_weights eye tri q) ≡ false → fragment eye q tri ≡ None
fragment_none eye q tri e = fragment_is eye q tri ∙ rw e

pub fragment_counter_clockwise : (eye : Vec3) (q : ScreenPoint) (tri : WorldTri) (counter_clockwise : Weights) → IsCounterClockwiseOf (screen_weights eye tri q) counter_clockwise → fragment eye q tri ≡ fragment_by counter_clockwise tri eye.z
fragment_counter_clockwise eye q tri counter_clockwise h = fragment_is eye q tri ∙ rw (h.covered, h.same_depth tri)

-- the weights negated
abbrev pub negate_weights : Weights → Weights
negate_weights w = record { a = neg_ℤ w.a; b = neg_ℤ w.b; c = neg_ℤ w.c }

pub depth-negate_weights : (w : Weights) (tri : WorldTri) → total w ≢ pos 0 → depth (negate_weights w) tri ≡ depth w tri
unfolding depth
depth-negate_weights w tri h =
    let n = w.a *ℤ tri.a.z +ℤ w.b *ℤ tri.b.z +ℤ w.c *ℤ tri.c.z in
    let sum : neg_ℤ w.a *ℤ tri.a.z +ℤ neg_ℤ w.b *ℤ tri.b.z +ℤ neg_ℤ w.c *ℤ tri.c.z ≡ neg_ℤ n = simp neg-mul (omega (arith, same_in, sum_is_lem, neg_is)) in
    let area : total (negate_weights w) ≡ neg_ℤ (total w) = omega (arith, same_in, sum_is_lem, neg_is) in
    rw (sum, area) (floor_both_signs n (total w) h)

-- by its own weights, and by these negated
pub counter_clockwise_itself : (w : Weights) → IsCounterClockwise w → IsCounterClockwiseOf w w
counter_clockwise_itself w h = record {
  covered = covers_non_negative w (record { a = h.a; b = h.b; c = h.c; area = h.area });
  counter_clockwise = h;
  same_depth = λ tri. refl;
}

pub counter_clockwise_negated : (w : Weights) → IsCounterClockwise (negate_weights w) → IsCounterClockwiseOf w (negate_weights w)
counter_clockwise_negated w h = record {
  covered = covers_non_positive w (record { a = omega (arith, ints); b = omega (arith, ints); c = omega (arith, ints); area = omega (arith, ints) });
  counter_clockwise = h;
  same_depth = λ tri. depth-negate_weights w tri (λ e. omega (arith, ints));
}

pub not_counter_clockwise : (w : Weights) → IsSmall w → ¬ (IsCounterClockwise w) → ¬ (IsCounterClockwise (negate_weights w)) → covers w ≡ false
not_counter_clockwise w small not_left not_right = by (covers w) refl
  where
    by_side : IsNonNegative w ⊎ IsNonPositive w → ⊥
    by_side (inl h) = not_left (record { a = h.a; b = h.b; c = h.c; area = h.area; small = omega (arith, ints) })
    by_side (inr h) = not_right (record { a = omega (arith, ints); b = omega (arith, ints); c = omega (arith, ints); area = omega (arith, ints); small = omega (arith, ints) })

    by : (t : Bool) → covers w ≡ t → t ≡ false
    by true e = absurd (by_side (covers_cases w e))
    by false e = refl
