-- How large sums and products of whole numbers are.
use Rattle.std.proofs.Common.{◌≡◌, ℕ, zero, suc, ◌+◌, ◌*◌, ◌^◌, ◌<◌, ◌≤◌, List, [], ◌∷◌, IsTrue, refl, ap, ◌∙◌, arith, ℤ, pos, ◌+ℤ◌, ◌*ℤ◌, unsigned_abs, w64, FitsSigned, to_z, of_z, get_or}
use Rattle.std.proofs.lemmas.Int.{ints, unsigned_abs-mul, fits_signed_from_abs, to_z-of_z}
use Rattle.std.proofs.Math.IntN.{+ℤ_idl}
use mir.Syntax.{Width}
use mir.Val.{hbits}
use Rattle.std.proofs.Math.Nat.{mul-le-mul}
use Rattle.std.specs.List.{list_all}
use Rattle.hd_num.specs.Matrices.{is_within}

pub sum_size : (a b : ℤ) (m n : ℕ) → unsigned_abs a ≤ m → unsigned_abs b ≤ n → unsigned_abs (a +ℤ b) ≤ m + n
sum_size a b m n h k = omega (arith, ints)

pub product_size : (a b : ℤ) (m n : ℕ) → unsigned_abs a ≤ m → unsigned_abs b ≤ n → unsigned_abs (a *ℤ b) ≤ m * n
product_size a b m n h k = rw (unsigned_abs-mul a b) (mul-le-mul h k)

-- a number of a list of numbers from -bound to bound, and 0 past its end
pub size_at : (bound : ℕ) (xs : List ℤ) (k : ℕ) → IsTrue (list_all (is_within bound) xs) → unsigned_abs (get_or xs k (pos 0)) ≤ bound
size_at bound [] k h = grind arith
size_at bound (x ∷ xs) zero h = grind arith
size_at bound (x ∷ xs) (suc k) h = size_at bound xs k (grind arith)

pub fits_up_to : (w : Width) (z : ℤ) (n : ℕ) → unsigned_abs z ≤ n → n < 2 ^ hbits w → FitsSigned w z
fits_up_to w z n h k = fits_signed_from_abs w z (omega arith)

-- ---- numbers as the code keeps them, in bits

abbrev pub kept : Width → ℤ → ℤ
kept w z = to_z w (of_z w z)

-- the code's sum and product of two numbers
abbrev pub plus : Width → ℤ → ℤ → ℤ
plus w x a = kept w x +ℤ kept w a

abbrev pub times : Width → ℤ → ℤ → ℤ
times w x a = kept w x *ℤ kept w a

-- what the code computes is z, no larger than n: it fits, and is kept as it is
pub record IsExact (w : Width) (computed z : ℤ) (n : ℕ) : Type 0 where
  pub size : unsigned_abs z ≤ n
  pub fits : FitsSigned w computed
  pub value : kept w computed ≡ z

exact : (w : Width) (computed z : ℤ) (n : ℕ) → computed ≡ z → unsigned_abs z ≤ n → n < 2 ^ hbits w → IsExact w computed z n
exact w computed z n e h k =
    let f : FitsSigned w computed = rw e (fits_up_to w z n h k) in
    record { size = h; fits = f; value = to_z-of_z w computed f ∙ e }

pub exact_number : (w : Width) (z : ℤ) (n : ℕ) → unsigned_abs z ≤ n → n < 2 ^ hbits w → IsExact w z z n
exact_number w z n h k = exact w z z n refl h k

pub exact_product : {w : Width} {x a x' a' : ℤ} {m n : ℕ} → IsExact w x' x m → IsExact w a' a n → m * n < 2 ^ hbits w → IsExact w (times w x' a') (x *ℤ a) (m * n)
exact_product {w} {x} {a} {x'} {a'} {m} {n} p q k =
    let e : times w x' a' ≡ x *ℤ a = rw (p.value, q.value) refl in
    exact w (times w x' a') (x *ℤ a) (m * n) e (product_size x a m n p.size q.size) k

pub exact_sum : {w : Width} {x a x' a' : ℤ} {m n : ℕ} → IsExact w x' x m → IsExact w a' a n → m + n < 2 ^ hbits w → IsExact w (plus w x' a') (x +ℤ a) (m + n)
exact_sum {w} {x} {a} {x'} {a'} {m} {n} p q k =
    let e : plus w x' a' ≡ x +ℤ a = rw (p.value, q.value) refl in
    exact w (plus w x' a') (x +ℤ a) (m + n) e (sum_size x a m n p.size q.size) k

-- x a + y b + z c, as the code computes it
pub record ThreeProducts (w : Width) (r q : ℕ) (x y z a b c : ℤ) : Type 0 where
  pub first : IsExact w (times w x a) (x *ℤ a) (r * q)
  pub second : IsExact w (times w y b) (y *ℤ b) (r * q)
  pub third : IsExact w (times w z c) (z *ℤ c) (r * q)
  pub of_two : IsExact w (plus w (times w x a) (times w y b)) (x *ℤ a +ℤ y *ℤ b) (r * q + r * q)
  pub of_three : IsExact w (plus w (plus w (times w x a) (times w y b)) (times w z c)) (x *ℤ a +ℤ y *ℤ b +ℤ z *ℤ c) (r * q + r * q + r * q)

-- it is exact where x, y and z are no larger than r, and a, b and c no larger than q
pub three_products : (w : Width) (r q : ℕ) → r * q + r * q + r * q < 2 ^ hbits w → {x y z a b c : ℤ} → IsExact w x x r → IsExact w y y r → IsExact w z z r → IsExact w a a q → IsExact w b b q → IsExact w c c q → ThreeProducts w r q x y z a b c
three_products w r q room x y z a b c =
    let first = exact_product x a (omega arith) in
    let second = exact_product y b (omega arith) in
    let third = exact_product z c (omega arith) in
    let of_two = exact_sum first second (omega arith) in
    record {
      first = first;
      second = second;
      third = third;
      of_two = of_two;
      of_three = exact_sum of_two third (omega arith);
    }

-- a sum of four as the definition has it, which begins at 0
pub sum_from_zero : (x y z t : ℤ) → pos 0 +ℤ x +ℤ y +ℤ z +ℤ t ≡ x +ℤ y +ℤ z +ℤ t
sum_from_zero x y z t = ap (λ s. s +ℤ y +ℤ z +ℤ t) (+ℤ_idl x)

pub one_times : (d : ℤ) → pos 1 *ℤ d ≡ d
one_times d = omega (arith, ints)

-- ---- 64 bits read as 128

pub read_size : (z : ℤ) (b : ℕ) → z ≡ to_z w64 b → unsigned_abs z ≤ 2 ^ 63
read_size z b e = omega (arith, ints)

pub read_value : (z x : ℤ) → z ≡ kept w64 x → FitsSigned w64 x → z ≡ x
read_value z x e f = e ∙ to_z-of_z w64 x f

pub same_products : {x y z a b c d x' y' z' a' b' c' d' : ℤ} → x' ≡ x → y' ≡ y → z' ≡ z → a' ≡ a → b' ≡ b → c' ≡ c → d' ≡ d → x' *ℤ a' +ℤ y' *ℤ b' +ℤ z' *ℤ c' +ℤ d' ≡ pos 0 +ℤ x *ℤ a +ℤ y *ℤ b +ℤ z *ℤ c +ℤ pos 1 *ℤ d
same_products {x} {y} {z} {a} {b} {c} {d} ex ey ez ea eb ec ed =
    rw (ex, ey, ez, ea, eb, ec, ed, sum_from_zero (x *ℤ a) (y *ℤ b) (z *ℤ c) (pos 1 *ℤ d), one_times d) refl
