-- Whole numbers: products over sums, and bounds on products.
use Rattle.std.proofs.Common.{◌≡◌, ℕ, suc, ◌+◌, ◌*◌, ◌<◌, ◌≤◌, ◌^◌, arith, ap, ◌∙◌, ℤ, pos, negsuc, ◌+ℤ◌, ◌-ℤ◌, ◌*ℤ◌, neg_ℤ, ◌≤ℤ◌, ◌<ℤ◌, FitsSigned, to_z, of_z, w64, mul-le-mul as nat-mul-le-mul, mul-le-mul_left}
use Rattle.std.proofs.lemmas.Int.{by_lt_z, ints, to_z-of_z}
use borrow.Author.Differences.{up, down, at_most_in, same_in, sum_is_lem, neg_is, product_is}
use lib.IntN.{*ℤ_comm}
use mir.Syntax.{Width}
use mir.Val.{hbits}
use Rattle.hd_picture.specs.Limits.{IsWithin}

pub add-mul : (a b c : ℤ) → (a +ℤ b) *ℤ c ≡ a *ℤ c +ℤ b *ℤ c
add-mul a b c =
    let sum : up (a +ℤ b) + down a + down b ≡ down (a +ℤ b) + up a + up b = sum_is_lem a b in
    let above = ap (λ n. n * up c) sum in
    let below = ap (λ n. n * down c) sum in
    omega (arith, same_in, sum_is_lem, product_is)

pub neg-mul : (a b : ℤ) → neg_ℤ a *ℤ b ≡ neg_ℤ (a *ℤ b)
neg-mul a b =
    let u = neg_is a in
    let uu = ap (λ n. n * up b) u.0 in
    let ud = ap (λ n. n * down b) u.0 in
    let du = ap (λ n. n * up b) u.1 in
    let dd = ap (λ n. n * down b) u.1 in
    omega (arith, same_in, neg_is, product_is)

pub sub-mul : (a b c : ℤ) → (a -ℤ b) *ℤ c ≡ a *ℤ c -ℤ b *ℤ c
sub-mul a b c = add-mul a (neg_ℤ b) c ∙ ap (λ z. a *ℤ c +ℤ z) (neg-mul b c)

pub mul-add : (a b c : ℤ) → a *ℤ (b +ℤ c) ≡ a *ℤ b +ℤ a *ℤ c
mul-add a b c = *ℤ_comm a (b +ℤ c) ∙ add-mul b c a ∙ ap (λ z. z +ℤ c *ℤ a) (*ℤ_comm b a) ∙ ap (λ z. a *ℤ b +ℤ z) (*ℤ_comm c a)

pub mul-sub : (a b c : ℤ) → a *ℤ (b -ℤ c) ≡ a *ℤ b -ℤ a *ℤ c
mul-sub a b c = *ℤ_comm a (b -ℤ c) ∙ sub-mul b c a ∙ ap (λ z. z -ℤ c *ℤ a) (*ℤ_comm b a) ∙ ap (λ z. a *ℤ b -ℤ z) (*ℤ_comm c a)

-- a product of three, by the parts of its factors
pub triple_is : (a b c : ℤ)
    → (up (a *ℤ b *ℤ c) ≡ up a * up b * up c + down a * down b * up c + up a * down b * down c + down a * up b * down c)
    × (down (a *ℤ b *ℤ c) ≡ up a * up b * down c + down a * down b * down c + up a * down b * up c + down a * up b * up c)
triple_is a b c =
    let p = product_is a b in
    let uu = ap (λ n. n * up c) p.0 in
    let ud = ap (λ n. n * down c) p.0 in
    let du = ap (λ n. n * up c) p.1 in
    let dd = ap (λ n. n * down c) p.1 in
    let q = product_is (a *ℤ b) c in
    omega arith

pub IsWithin-product : (m n : ℕ) (a b : ℤ) → IsWithin m a → IsWithin n b → IsWithin (m * n) (a *ℤ b)
IsWithin-product m n (pos i) (pos j) h k =
    let p : i * j ≤ m * n = nat-mul-le-mul (omega (arith, ints)) (omega (arith, ints)) in
    record { low = omega (arith, ints); high = omega (arith, ints) }
IsWithin-product m n (pos i) (negsuc j) h k =
    let p : i * suc j ≤ m * n = nat-mul-le-mul (omega (arith, ints)) (omega (arith, ints)) in
    record { low = omega (arith, ints); high = omega (arith, ints) }
IsWithin-product m n (negsuc i) (pos j) h k =
    let p : suc i * j ≤ m * n = nat-mul-le-mul (omega (arith, ints)) (omega (arith, ints)) in
    record { low = omega (arith, ints); high = omega (arith, ints) }
IsWithin-product m n (negsuc i) (negsuc j) h k =
    let p : suc i * suc j ≤ m * n = nat-mul-le-mul (omega (arith, ints)) (omega (arith, ints)) in
    record { low = omega (arith, ints); high = omega (arith, ints) }

-- a number far from the ends of 64 bits comes back from its bits
pub read_within : (k : ℕ) (z : ℤ) → k < 2 ^ 63 → IsWithin k z → to_z w64 (of_z w64 z) ≡ z
read_within k z h b = to_z-of_z w64 z (omega (arith, ints))

-- the same at any width
pub read_at : (w : Width) (k : ℕ) (z : ℤ) → k < 2 ^ hbits w → IsWithin k z → to_z w (of_z w z) ≡ z
read_at w k z h b = to_z-of_z w z (omega (arith, ints))

-- a product of numbers that were read from their bits
pub read_product : (w : Width) (m n : ℕ) (a b : ℤ) → m < 2 ^ hbits w → n < 2 ^ hbits w → m * n < 2 ^ hbits w → IsWithin m a → IsWithin n b
    → to_z w (of_z w (to_z w (of_z w a) *ℤ to_z w (of_z w b))) ≡ a *ℤ b
read_product w m n a b p q r h k =
    rw (read_at w m a p h, read_at w n b q k) (read_at w (m * n) (a *ℤ b) r (IsWithin-product m n a b h k))

-- a bit more than a number's distance from 0
pub IsWithin-sub : (m n : ℕ) (a b : ℤ) → IsWithin m a → IsWithin n b → IsWithin (m + n) (a -ℤ b)
IsWithin-sub m n a b h k = record { low = omega (arith, ints); high = omega (arith, ints) }

pub fits_within : (k : ℕ) (z : ℤ) → k < 2 ^ 63 → IsWithin k z → FitsSigned w64 z
fits_within k z h b = omega (arith, ints)

-- factors not below 0 keep an order, and factors above 0 are cancelled in one
pub mul-le-mul : (t a b : ℤ) → pos 0 ≤ℤ t → a ≤ℤ b → (t *ℤ a) ≤ℤ (t *ℤ b)
mul-le-mul (pos n) a b p h =
    let q : up a + down b ≤ up b + down a = omega (arith, ints) in
    let times = mul-le-mul_left n q in
    omega (arith, at_most_in, product_is, times)
mul-le-mul (negsuc n) a b p h = absurd (omega (arith, ints))

pub mul-le_cancel : (t a b : ℤ) → pos 0 <ℤ t → (t *ℤ a) ≤ℤ (t *ℤ b) → a ≤ℤ b
mul-le_cancel (pos n) a b p h =
    by_lt_z b a
    (λ l.
    let q : up b + down a + 1 ≤ up a + down b = omega (arith, ints) in
    let times = mul-le-mul_left n q in
    absurd (omega (arith, ints, times)))
    (λ l. l)
mul-le_cancel (negsuc n) a b p h = absurd (omega (arith, ints))

pub mul-lt_cancel : (t a b : ℤ) → pos 0 <ℤ t → (t *ℤ a) <ℤ (t *ℤ b) → a <ℤ b
mul-lt_cancel (pos n) a b p h =
    by_lt_z a b
    (λ l. l)
    (λ l.
    let q : up b + down a ≤ up a + down b = omega (arith, ints) in
    let times = mul-le-mul_left n q in
    absurd (omega (arith, ints, times)))
mul-lt_cancel (negsuc n) a b p h = absurd (omega (arith, ints))
