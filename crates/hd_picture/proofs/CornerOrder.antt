-- The order of a triangle's corners.
use Rattle.std.proofs.Common.{◌≡◌, ◌≢◌, ◌⊎◌, inl, inr, arith, ap, refl, sym, ◌∙◌, Bool, true, false, cond, ℤ, pos, ◌+ℤ◌, ◌-ℤ◌, ◌*ℤ◌, neg_ℤ, None}
use Rattle.std.proofs.lemmas.Int.{ints}
use Rattle.std.specs.Cmp.{both_ways}
use borrow.Author.Differences.{same_in, sum_is_lem, neg_is, product_is}
use lib.IntN.{neg_ℤ-neg_ℤ}
use Rattle.hd_num.specs.declared.vector.Vec3.{Vec3}
use Rattle.hd_picture.specs.declared.draws.WorldTri.{WorldTri}
use Rattle.hd_picture.specs.declared.define.coverage.Weights.{Weights}
use Rattle.hd_picture.specs.declared.define.view.ScreenPoint.{ScreenPoint}
use Rattle.hd_picture.specs.Laws.{mirror_image, rotation}
use Rattle.hd_picture.specs.define.Coverage.{covers, edge, screen_weights, total, weights}
use Rattle.hd_picture.specs.define.Depth.{depth}
use Rattle.hd_picture.specs.define.Pixels.{fragment}
use Rattle.hd_picture.specs.define.View.{screen_point}
use Rattle.hd_picture.specs.inner.Pixels.{fragment_by}
use Rattle.hd_picture.proofs.FloorDivision.{IsNonNegative}
use Rattle.hd_picture.proofs.CoverageLemmas.{IsNonPositive, covers_cases, covers_non_negative, covers_non_positive, fragment_is}
use Rattle.hd_picture.proofs.FloorDivision.{floor_both_signs}
use Rattle.hd_picture.proofs.Integers.{mul-sub, neg-mul, sub-mul}

-- an edge the other way round
pub edge-swap : (a b q : ScreenPoint) → edge b a q ≡ neg_ℤ (edge a b q)
unfolding edge
edge-swap a b q = ring a.x a.y b.x b.y q.x q.y
  where
    ring : (ax ay bx by qx qy : ℤ)
        → (ax -ℤ bx) *ℤ (qy -ℤ by) -ℤ (ay -ℤ by) *ℤ (qx -ℤ bx)
        ≡ neg_ℤ ((bx -ℤ ax) *ℤ (qy -ℤ ay) -ℤ (by -ℤ ay) *ℤ (qx -ℤ ax))
    ring ax ay bx by qx qy = simp (sub-mul, mul-sub) (omega (arith, same_in, sum_is_lem, neg_is, product_is))

-- triangles that cover alike and have one depth show the same
same_fragment : (eye : Vec3) (q : ScreenPoint) (s t : WorldTri) → s.color ≡ t.color
    → covers (screen_weights eye s q) ≡ covers (screen_weights eye t q)
    → (covers (screen_weights eye t q) ≡ true → depth (screen_weights eye s q) s ≡ depth (screen_weights eye t q) t)
    → fragment eye q s ≡ fragment eye q t
same_fragment eye q s t color cover same =
    fragment_is eye q s ∙ ap (λ b. cond b (fragment_by (screen_weights eye s q) s eye.z) None) cover
    ∙ by (covers (screen_weights eye t q)) refl ∙ sym (fragment_is eye q t)
  where
    by : (b : Bool) → covers (screen_weights eye t q) ≡ b → cond b (fragment_by (screen_weights eye s q) s eye.z) None ≡ cond b (fragment_by (screen_weights eye t q) t eye.z) None
    by true e = rw (same e, color)
    by false e = refl

abbrev corner_weights : (x y z : ℤ) → Weights
corner_weights x y z = record { a = x; b = y; c = z }

pub covers_apart : (w : Weights) → covers w ≡ true → total w ≢ pos 0
covers_apart w h e = by (covers_cases w h)
  where
    by : IsNonNegative w ⊎ IsNonPositive w → ⊥
    by (inl l) = omega (arith, ints)
    by (inr r) = omega (arith, ints)

rotated : (x y z : ℤ) → covers (corner_weights x y z) ≡ true → covers (corner_weights y z x) ≡ true
rotated x y z h = by (covers_cases (corner_weights x y z) h)
  where
    by : IsNonNegative (corner_weights x y z) ⊎ IsNonPositive (corner_weights x y z) → covers (corner_weights y z x) ≡ true
    by (inl l) = covers_non_negative (corner_weights y z x) (record { a = l.b; b = l.c; c = l.a; area = (let area = l.area in omega (arith, ints)) })
    by (inr r) = covers_non_positive (corner_weights y z x) (record { a = r.b; b = r.c; c = r.a; area = (let area = r.area in omega (arith, ints)) })

covers-rotated : (x y z : ℤ) → covers (corner_weights y z x) ≡ covers (corner_weights x y z)
covers-rotated x y z = both_ways (covers (corner_weights y z x)) (covers (corner_weights x y z)) (λ h. rotated z x y (rotated y z x h)) (rotated x y z)

depth-rotated : (x y z : ℤ) (tri : WorldTri) → depth (corner_weights y z x) (rotation tri) ≡ depth (corner_weights x y z) tri
unfolding depth
depth-rotated x y z tri =
    let sum : y *ℤ tri.b.z +ℤ z *ℤ tri.c.z +ℤ x *ℤ tri.a.z ≡ x *ℤ tri.a.z +ℤ y *ℤ tri.b.z +ℤ z *ℤ tri.c.z = omega (arith, same_in, sum_is_lem) in
    let area : y +ℤ z +ℤ x ≡ x +ℤ y +ℤ z = omega (arith, same_in, sum_is_lem) in
    rw (sum, area)

pub rotation_shows_the_same : (eye : Vec3) (q : ScreenPoint) (tri : WorldTri) → fragment eye q (rotation tri) ≡ fragment eye q tri
rotation_shows_the_same eye q tri =
    let w = screen_weights eye tri q in
    same_fragment eye q (rotation tri) tri refl (covers-rotated w.a w.b w.c) (λ h. depth-rotated w.a w.b w.c tri)

flipped : (x y z : ℤ) → covers (corner_weights x y z) ≡ true → covers (corner_weights (neg_ℤ x) (neg_ℤ z) (neg_ℤ y)) ≡ true
flipped x y z h = by (covers_cases (corner_weights x y z) h)
  where
    by : IsNonNegative (corner_weights x y z) ⊎ IsNonPositive (corner_weights x y z) → covers (corner_weights (neg_ℤ x) (neg_ℤ z) (neg_ℤ y)) ≡ true
    by (inl l) = covers_non_positive (corner_weights (neg_ℤ x) (neg_ℤ z) (neg_ℤ y)) (record { a = omega (arith, ints); b = omega (arith, ints); c = omega (arith, ints); area = omega (arith, ints) })
    by (inr r) = covers_non_negative (corner_weights (neg_ℤ x) (neg_ℤ z) (neg_ℤ y)) (record { a = omega (arith, ints); b = omega (arith, ints); c = omega (arith, ints); area = omega (arith, ints) })

covers-flipped : (x y z : ℤ) → covers (corner_weights (neg_ℤ x) (neg_ℤ z) (neg_ℤ y)) ≡ covers (corner_weights x y z)
covers-flipped x y z = both_ways (covers (corner_weights (neg_ℤ x) (neg_ℤ z) (neg_ℤ y))) (covers (corner_weights x y z)) back (flipped x y z)
  where
    back : covers (corner_weights (neg_ℤ x) (neg_ℤ z) (neg_ℤ y)) ≡ true → covers (corner_weights x y z) ≡ true
    back h = rw (neg_ℤ-neg_ℤ x, neg_ℤ-neg_ℤ y, neg_ℤ-neg_ℤ z) at (flipped (neg_ℤ x) (neg_ℤ z) (neg_ℤ y) h)

depth-flipped : (x y z : ℤ) (tri : WorldTri) → x +ℤ y +ℤ z ≢ pos 0 → depth (corner_weights (neg_ℤ x) (neg_ℤ z) (neg_ℤ y)) (mirror_image tri) ≡ depth (corner_weights x y z) tri
unfolding depth
depth-flipped x y z tri h =
    let n = x *ℤ tri.a.z +ℤ y *ℤ tri.b.z +ℤ z *ℤ tri.c.z in
    let sum : neg_ℤ x *ℤ tri.a.z +ℤ neg_ℤ z *ℤ tri.c.z +ℤ neg_ℤ y *ℤ tri.b.z ≡ neg_ℤ n = simp neg-mul (omega (arith, same_in, sum_is_lem, neg_is)) in
    let area : neg_ℤ x +ℤ neg_ℤ z +ℤ neg_ℤ y ≡ neg_ℤ (x +ℤ y +ℤ z) = omega (arith, same_in, sum_is_lem, neg_is) in
    rw (sum, area) (floor_both_signs n (x +ℤ y +ℤ z) h)

pub mirror_image_weights : (a b c q : ScreenPoint) → weights a c b q ≡ corner_weights (neg_ℤ (edge b c q)) (neg_ℤ (edge a b q)) (neg_ℤ (edge c a q))
mirror_image_weights a b c q = rw (edge-swap b c q, edge-swap a b q, edge-swap c a q)

pub mirror_image_shows_the_same : (eye : Vec3) (q : ScreenPoint) (tri : WorldTri) → fragment eye q (mirror_image tri) ≡ fragment eye q tri
mirror_image_shows_the_same eye q tri =
    let w = screen_weights eye tri q in
    let e : screen_weights eye (mirror_image tri) q ≡ corner_weights (neg_ℤ w.a) (neg_ℤ w.c) (neg_ℤ w.b) = mirror_image_weights (screen_point eye tri.a) (screen_point eye tri.b) (screen_point eye tri.c) q in
    same_fragment eye q (mirror_image tri) tri refl
    (ap covers e ∙ covers-flipped w.a w.b w.c)
    (λ h. ap (λ v. depth v (mirror_image tri)) e ∙ depth-flipped w.a w.b w.c tri (covers_apart w h))
