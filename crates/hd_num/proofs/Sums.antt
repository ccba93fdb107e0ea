-- Finite sums of whole numbers.
use Rattle.std.proofs.Common.{◌≡◌, ℕ, zero, suc, ◌*◌, ◌<◌, refl, sym, ap, ◌∙◌, arith, ℤ, pos, ◌+ℤ◌, ◌*ℤ◌}
use Rattle.std.proofs.lemmas.Int.{ints}
use Rattle.std.proofs.Math.IntN.{*ℤ_comm}
use borrow.Author.Differences.{up, down, sum_is_lem, product_is}
use Rattle.hd_num.specs.Matrices.{sum_below}

add_times : (a b c : ℤ) → (a +ℤ b) *ℤ c ≡ a *ℤ c +ℤ b *ℤ c
add_times a b c = omega (arith, ints, ap (λ n. n * up c) (sum_is_lem a b), ap (λ n. n * down c) (sum_is_lem a b))

times_add : (a b c : ℤ) → a *ℤ (b +ℤ c) ≡ a *ℤ b +ℤ a *ℤ c
times_add a b c = *ℤ_comm a (b +ℤ c) ∙ add_times b c a ∙ by_comm
  where
    by_comm : b *ℤ a +ℤ c *ℤ a ≡ a *ℤ b +ℤ a *ℤ c
    by_comm = rw (*ℤ_comm b a, *ℤ_comm c a) refl

times_assoc : (a b c : ℤ) → (a *ℤ b) *ℤ c ≡ a *ℤ (b *ℤ c)
times_assoc a b c =
    let l = product_is a b in
    let r = product_is b c in
    omega (arith, ints, ap (λ n. n * up c) l.0, ap (λ n. n * down c) l.0, ap (λ n. n * up c) l.1, ap (λ n. n * down c) l.1, ap (λ n. up a * n) r.0, ap (λ n. down a * n) r.0, ap (λ n. up a * n) r.1, ap (λ n. down a * n) r.1)

zero_times : (c : ℤ) → pos 0 *ℤ c ≡ pos 0
zero_times c = omega (arith, ints)

times_zero : (c : ℤ) → c *ℤ pos 0 ≡ pos 0
times_zero c = omega (arith, ints)

add_both : (a b c d : ℤ) → (a +ℤ b) +ℤ (c +ℤ d) ≡ (a +ℤ c) +ℤ (b +ℤ d)
add_both a b c d = omega (arith, ints)

pub sum_same : (n : ℕ) (f g : ℕ → ℤ) → ((k : ℕ) → k < n → f k ≡ g k) → sum_below n f ≡ sum_below n g
sum_same zero f g h = refl
sum_same (suc n) f g h =
    let rest = sum_same n f g (λ k l. h k (omega arith)) in
    let last = h n (omega arith) in
    rw (rest, last) refl

sum_times : (n : ℕ) (f : ℕ → ℤ) (c : ℤ) → sum_below n f *ℤ c ≡ sum_below n (λ k. f k *ℤ c)
sum_times zero f c = zero_times c
sum_times (suc n) f c = add_times (sum_below n f) (f n) c ∙ ap (λ s. s +ℤ f n *ℤ c) (sum_times n f c)

times_sum : (n : ℕ) (f : ℕ → ℤ) (c : ℤ) → c *ℤ sum_below n f ≡ sum_below n (λ k. c *ℤ f k)
times_sum zero f c = times_zero c
times_sum (suc n) f c = times_add c (sum_below n f) (f n) ∙ ap (λ s. s +ℤ c *ℤ f n) (times_sum n f c)

sum_zeros : (n : ℕ) → sum_below n (λ k. pos 0) ≡ pos 0
sum_zeros zero = refl
sum_zeros (suc n) = ap (λ s. s +ℤ pos 0) (sum_zeros n)

sum_add : (n : ℕ) (f g : ℕ → ℤ) → sum_below n (λ k. f k +ℤ g k) ≡ sum_below n f +ℤ sum_below n g
sum_add zero f g = refl
sum_add (suc n) f g = ap (λ s. s +ℤ (f n +ℤ g n)) (sum_add n f g) ∙ add_both (sum_below n f) (sum_below n g) (f n) (g n)

sum_swap : (m n : ℕ) (f : ℕ → ℕ → ℤ) → sum_below m (λ i. sum_below n (f i)) ≡ sum_below n (λ j. sum_below m (λ i. f i j))
sum_swap zero n f = sym (sum_zeros n)
sum_swap (suc m) n f =
    ap (λ s. s +ℤ sum_below n (f m)) (sum_swap m n f) ∙ sym (sum_add n (λ j. sum_below m (λ i. f i j)) (f m))

-- a row times one table and then another is the row times their product
pub sum_through : (m n : ℕ) (r : ℕ → ℤ) (b : ℕ → ℕ → ℤ) (c : ℕ → ℤ) → sum_below n (λ k. sum_below m (λ l. r l *ℤ b l k) *ℤ c k) ≡ sum_below m (λ l. r l *ℤ sum_below n (λ k. b l k *ℤ c k))
sum_through m n r b c =
    sum_same n _ (λ k. sum_below m (λ l. r l *ℤ b l k *ℤ c k)) (λ k h. sum_times m (λ l. r l *ℤ b l k) (c k))
    ∙ sum_swap n m (λ k l. r l *ℤ b l k *ℤ c k)
    ∙ sum_same m _ _ (λ l h. sum_same n _ (λ k. r l *ℤ (b l k *ℤ c k)) (λ k i. times_assoc (r l) (b l k) (c k)) ∙ sym (times_sum n (λ k. b l k *ℤ c k) (r l)))
