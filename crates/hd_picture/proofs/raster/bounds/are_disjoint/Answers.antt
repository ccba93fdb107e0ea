use Rattle.std.proofs.Common.{arith, rules, sym, ◌≡◌, ◌∙◌, ◌≤ℤ◌, ◌<ℤ◌, w64}
use Rattle.std.specs.Int.{int_max, int_min}
use Rattle.std.proofs.lemmas.Int.{clamps, ints, to_z-of_z}
use Rattle.hd_picture.proofs.TileLemmas.{disjoint_below}
use Rattle.hd_picture.proofs.CrossProduct.{read}
use Rattle.hd_picture.proofs.raster.bounds.are_disjoint.Goals as goal

pub returns-else-max-least : goal.returns-else-max-least
returns-else-max-least c =
    let low = int_min c.args.a (int_min c.args.b c.args.c) in
    let high = int_max c.args.a (int_max c.args.b c.args.c) in
    let a = to_z-of_z w64 c.args.a c.ranges.a in
    let b = to_z-of_z w64 c.args.b c.ranges.b in
    let c' = to_z-of_z w64 c.args.c c.ranges.c in
    let least = to_z-of_z w64 c.args.least c.ranges.least in
    let most = to_z-of_z w64 c.args.most c.ranges.most in
    let lower = to_z-of_z w64 c.min.result (search rules) ∙ (rw (b, c') at c.min.ensures.value) in
    let low_is : read c.min-else-max-least.result ≡ low = to_z-of_z w64 c.min-else-max-least.result (search rules) ∙ (rw (a, lower) at c.min-else-max-least.ensures.value) in
    let higher = to_z-of_z w64 c.max.result (search rules) ∙ (rw (b, c') at c.max.ensures.value) in
    let high_is : read c.max-2.result ≡ high = to_z-of_z w64 c.max-2.result (search rules) ∙ (rw (a, higher) at c.max-2.ensures.value) in
    let test = rw (high_is, least) at c.if-max-least.false in
    let reaches : c.args.least ≤ℤ high = omega (arith, ints, test) in (
      λ t q least most between. omega (arith, ints, clamps),
      λ apart.
          let below : c.args.most <ℤ low = disjoint_below c.args.a c.args.b c.args.c c.args.least c.args.most c.requires reaches apart in
          rw (most, low_is) (sym (omega (arith, ints, below))),
    )
