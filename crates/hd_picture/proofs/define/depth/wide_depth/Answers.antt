use Rattle.std.proofs.Common.{arith, rules, ◌≡◌, ◌^◌, ◌∙◌, ℤ, ◌+ℤ◌, to_z, of_z, w64}
use Rattle.std.proofs.lemmas.Int.{ints, to_z-of_z}
use mir.Syntax.{w128}
use Rattle.hd_picture.specs.Limits.{IsWithin}
use Rattle.hd_picture.specs.define.Coverage.{total}
use Rattle.hd_picture.specs.define.Depth.{depth}
use Rattle.hd_picture.specs.inner.Depth.{depth_sum}
use Rattle.hd_picture.proofs.CrossProduct.{read}
use Rattle.hd_picture.proofs.FloorDivision.{depth_within}
use Rattle.hd_picture.proofs.define.depth.wide_depth.Goals as goal

abbrev read128 : ℤ → ℤ
read128 z = to_z w128 (of_z w128 z)

pub overflow_add-sum : goal.overflow_add-sum
overflow_add-sum c = omega (arith, ints)

pub overflow_add-sum-2 : goal.overflow_add-sum-2
overflow_add-sum-2 c = omega (arith, ints)

is_depth : (c : goal.After-wide_floor) → read128 c.wide_floor.result ≡ depth c.args.w c.args.tri
unfolding depth
is_depth c =
    let w = c.args.w in
    let tri = c.args.tri in
    let wa : read w.a ≡ w.a = omega (arith, ints) in
    let wb : read w.b ≡ w.b = omega (arith, ints) in
    let wc : read w.c ≡ w.c = omega (arith, ints) in
    let za : read tri.a.z ≡ tri.a.z = omega (arith, ints) in
    let zb : read tri.b.z ≡ tri.b.z = omega (arith, ints) in
    let zc : read tri.c.z ≡ tri.c.z = omega (arith, ints) in
    let a = rw (wa, za) at c.wide_product.ensures.value in
    let b = rw (wb, zb) at c.wide_product-2.ensures.value in
    let d = rw (wc, zc) at c.wide_product-3.ensures.value in
    let added : read128 (read128 (read128 c.wide_product.result +ℤ read128 c.wide_product-2.result) +ℤ read128 c.wide_product-3.result) ≡ c.wide_product.result +ℤ c.wide_product-2.result +ℤ c.wide_product-3.result = omega (arith, ints) in
    let sum : read128 (read128 (read128 c.wide_product.result +ℤ read128 c.wide_product-2.result) +ℤ read128 c.wide_product-3.result) ≡ depth_sum w tri = added ∙ cc (a, b, d) in
    let area : read c.args.area ≡ total c.args.w = to_z-of_z w64 c.args.area c.ranges.area ∙ c.requires.area in
    to_z-of_z w128 c.wide_floor.result (search rules) ∙ (rw (sum, area) at c.wide_floor.ensures)

pub overflow_cast-result : goal.overflow_cast-result
overflow_cast-result c =
    let h : IsWithin (2 ^ 24) (depth c.args.w c.args.tri) = depth_within c.args.w c.args.tri c.requires.counter_clockwise c.requires.corners in
    rw (is_depth c) (omega (arith, ints))

pub returns : goal.returns
returns c =
    let h : IsWithin (2 ^ 24) (depth c.args.w c.args.tri) = depth_within c.args.w c.args.tri c.requires.counter_clockwise c.requires.corners in
    rw (is_depth c) (to_z-of_z w64 (depth c.args.w c.args.tri) (omega (arith, ints)))

pub wide_product-requires-3-clause-weight : goal.wide_product-requires-3-clause-weight
wide_product-requires-3-clause-weight c = record { low = omega (arith, ints); high = omega (arith, ints) }
