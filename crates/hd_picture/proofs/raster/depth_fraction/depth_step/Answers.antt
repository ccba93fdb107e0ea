use Rattle.std.proofs.Common.{arith, ap, ◌≡◌, ◌∙◌, ◌^◌, ℤ, ◌-ℤ◌, ◌+ℤ◌, ◌≤ℤ◌, ◌<ℤ◌, pos, w64}
use Rattle.std.specs.Int.{int_div_euclid, int_rem_euclid}
use Rattle.std.proofs.lemmas.Int.{ints, to_z-of_z}
use Rattle.hd_picture.specs.Limits.{IsWithin}
use Rattle.hd_picture.proofs.CrossProduct.{read}
use Rattle.hd_picture.proofs.DepthFractionLemmas.{is_euclid, step_is, step_reach}
use Rattle.hd_picture.proofs.raster.depth_fraction.depth_step.Goals as goal

pub returns : goal.returns
returns c =
    let n = to_z-of_z w64 c.args.change c.ranges.change in
    let d = to_z-of_z w64 c.args.area c.ranges.area in
    let q : c.div_euclid.result ≡ int_div_euclid c.args.change c.args.area = rw (n, d) at c.div_euclid.ensures in
    let r : c.rem_euclid.result ≡ int_rem_euclid c.args.change c.args.area = rw (n, d) at c.rem_euclid.ensures.value in
    let h = is_euclid c.args.change c.args.area c.requires.area in
    let reach : IsWithin (2 ^ 54) c.div_euclid.result = rw q (step_reach c.args.change c.args.area c.requires.area c.requires.change) in
    let least : pos 0 ≤ℤ c.rem_euclid.result = rw r h.least in
    let most : c.rem_euclid.result <ℤ c.args.area = rw r h.most in
    let whole : read (read c.div_euclid.result +ℤ pos 1) ≡ c.div_euclid.result +ℤ pos 1 = omega (arith, ints) in
    let remainder : read (read c.rem_euclid.result -ℤ read c.args.area) ≡ c.rem_euclid.result -ℤ c.args.area = omega (arith, ints) in
    step_is c.args.change c.args.area _ c.requires.area c.requires.change (whole ∙ ap (λ (z : ℤ). z +ℤ pos 1) q) (remainder ∙ ap (λ (z : ℤ). z -ℤ c.args.area) r)
