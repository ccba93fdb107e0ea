use Rattle.std.proofs.Common.{arith, ◌≡◌, ◌∙◌, sym, to_z, of_z, ℤ, pos, ◌≤ℤ◌, ◌<ℤ◌}
use Rattle.std.specs.Int.{int_div_euclid, int_rem_euclid}
use Rattle.std.proofs.lemmas.Int.{ints, to_z-of_z}
use mir.Syntax.{w128}
use Rattle.hd_picture.specs.define.Depth.{floor_div}
use Rattle.hd_picture.proofs.CrossProduct.{read}
use Rattle.hd_picture.proofs.FloorDivision.{floor_div_is}
use Rattle.hd_picture.proofs.DepthFractionLemmas.{is_euclid, depth_fraction_is}
use Rattle.hd_picture.proofs.raster.depth_fraction.depth_fraction.Goals as goal
use Rattle.hd_picture.proofs.raster.depth_fraction.depth_fraction.Goals.{then-whole-via-then-whole, then-whole-via-else-whole+then-whole-gt-WHOLE_BOUND}

abbrev read128 : ℤ → ℤ
read128 z = to_z w128 (of_z w128 z)

pub returns-then-whole : goal.returns-then-whole
returns-then-whole c = λ near.
    let sum = to_z-of_z w128 c.args.sum c.ranges.sum in
    let area : read128 c.from-divisor.result ≡ c.args.area = omega (arith, ints) in
    let q : c.div_euclid-whole.result ≡ int_div_euclid c.args.sum c.args.area = rw (sum, area) at c.div_euclid-whole.ensures in
    let e : floor_div c.args.sum c.args.area ≡ c.div_euclid-whole.result = floor_div_is c.args.sum c.args.area c.requires.area ∙ sym q in
    elim c.then-whole.branch [
      | then-whole-via-then-whole w ↦ (let t = w.if-whole.true in omega (arith, ints))
      | then-whole-via-else-whole+then-whole-gt-WHOLE_BOUND w ↦ (let t = w.if-whole-gt-WHOLE_BOUND.true in omega (arith, ints))
    ]

pub returns : goal.returns
returns c =
    let sum = to_z-of_z w128 c.args.sum c.ranges.sum in
    let area : read128 c.from-divisor.result ≡ c.args.area = omega (arith, ints) in
    let q : c.div_euclid-whole.result ≡ int_div_euclid c.args.sum c.args.area = rw (sum, area) at c.div_euclid-whole.ensures in
    let r : c.rem_euclid.result ≡ int_rem_euclid c.args.sum c.args.area = rw (sum, area) at c.rem_euclid.ensures.value in
    let h = is_euclid c.args.sum c.args.area c.requires.area in
    let least : pos 0 ≤ℤ c.rem_euclid.result = rw r h.least in
    let most : c.rem_euclid.result <ℤ c.args.area = rw r h.most in
    let whole : read (read128 c.div_euclid-whole.result) ≡ c.div_euclid-whole.result = omega (arith, ints) in
    let remainder : read (read128 c.rem_euclid.result) ≡ c.rem_euclid.result = omega (arith, ints) in
    depth_fraction_is c.args.sum c.args.area _ c.requires.area (whole ∙ q) (remainder ∙ r) (rw whole (record { low = omega (arith, ints); high = omega (arith, ints) }))
