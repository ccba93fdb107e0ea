use Rattle.std.proofs.Common.{arith, sym}
use Rattle.std.proofs.lemmas.Int.{clamps, ints}
use Rattle.hd_picture.proofs.define.coverage.is_counter_clockwise.Goals as goal

pub returns-then-min-ge0 : goal.returns-then-min-ge0
returns-then-min-ge0 c = (
  λ t. record {
    a = omega (arith, ints, clamps);
    b = omega (arith, ints, clamps);
    c = omega (arith, ints, clamps);
    area = omega (arith, ints);
    small = omega (arith, ints);
  },
  λ h. sym (omega (arith, ints)),
)

pub returns-else-min-ge0 : goal.returns-else-min-ge0
returns-else-min-ge0 c = (
  λ t. absurd (omega (arith, ints)),
  λ h. sym (omega (arith, ints, clamps)),
)
