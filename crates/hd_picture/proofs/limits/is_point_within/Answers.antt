use Rattle.std.proofs.Common.{arith, ◌≡◌, refl}
use Rattle.std.proofs.lemmas.Int.{ints}
use Rattle.hd_picture.proofs.CrossProduct.{read}
use Rattle.hd_picture.proofs.limits.is_point_within.Goals as goal

pub returns : goal.returns
returns c =
    let bound : read c.args.bound ≡ c.args.bound = omega (arith, ints) in
    let px : read c.args.point.x ≡ c.args.point.x = omega (arith, ints) in
    let py : read c.args.point.y ≡ c.args.point.y = omega (arith, ints) in
    let pz : read c.args.point.z ≡ c.args.point.z = omega (arith, ints) in
    let x = rw (bound, px) at c.if-not-is_within.ensures.0 refl in
    let y = rw (bound, py) at c.if-not-is_within-2.ensures.0 refl in
    let z = rw (bound, pz) at c.is_within-3.ensures in
    (λ t. record { x = x; y = y; z = z.0 t }, λ h. z.1 h.z)
