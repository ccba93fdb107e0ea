use Rattle.std.proofs.Common.{arith, ◌≡◌, ◌^◌, ◌∙◌, ℤ, ◌+ℤ◌, to_z, of_z}
use Rattle.std.proofs.lemmas.Int.{ints}
use mir.Syntax.{w128}
use Rattle.hd_picture.proofs.CrossProduct.{read}
use Rattle.hd_picture.proofs.Offsets.{depth_sum_within}
use Rattle.hd_picture.proofs.define.depth.wide_sum.Goals as goal

abbrev read128 : ℤ → ℤ
read128 z = to_z w128 (of_z w128 z)

pub wide_product-requires-3-clause-weight : goal.wide_product-requires-3-clause-weight
wide_product-requires-3-clause-weight c =
    let w = c.requires.weights.c in
    record { low = omega (arith, ints); high = omega (arith, ints) }

pub overflow_add-result-2 : goal.overflow_add-result-2
overflow_add-result-2 c = omega (arith, ints)

pub returns-clause-value : goal.returns-clause-value
returns-clause-value c =
    let w = c.args.w in
    let tri = c.args.tri.now in
    let wa : read w.a ≡ w.a = omega (arith, ints) in
    let wb : read w.b ≡ w.b = omega (arith, ints) in
    let wc : read w.c ≡ w.c = omega (arith, ints) in
    let za : read tri.a.z ≡ tri.a.z = omega (arith, ints) in
    let zb : read tri.b.z ≡ tri.b.z = omega (arith, ints) in
    let zc : read tri.c.z ≡ tri.c.z = omega (arith, ints) in
    let a = rw (wa, za) at c.wide_product.ensures.value in
    let b = rw (wb, zb) at c.wide_product-2.ensures.value in
    let d = rw (wc, zc) at c.wide_product-3.ensures.value in
    let added : read128 (read128 (read128 c.wide_product.result +ℤ read128 c.wide_product-2.result) +ℤ read128 c.wide_product-3.result) ≡ c.wide_product.result +ℤ c.wide_product-2.result +ℤ c.wide_product-3.result = omega (arith, ints) in
    added ∙ cc (a, b, d)

pub returns-clause-small : goal.returns-clause-small
returns-clause-small c =
    rw (returns-clause-value c)
    (depth_sum_within (2 ^ 59) (2 ^ 90) c.args.w c.args.tri.now c.requires.weights.a c.requires.weights.b c.requires.weights.c c.requires.corners (omega arith))
