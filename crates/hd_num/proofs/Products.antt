-- Products, entry by entry.
use Rattle.std.proofs.Common.{◌≡◌, ℕ, zero, suc, ◌<◌, refl, sym, ap, ◌∙◌, arith, ℤ, pos, ◌+ℤ◌, ◌*ℤ◌, get_or, Some, lit<}
use Rattle.std.proofs.lemmas.Int.{ints}
use Rattle.hd_num.specs.declared.vector.Vec3.{Vec3}
use Rattle.hd_num.specs.Matrices.{Rows, entry, with_last, affine_entry, sum_below, row_times, three, table, identity, product, if_in_range, IsShaped}
use Rattle.hd_num.specs.Ops.{translation, scaling}
use Rattle.hd_num.specs.Points.{transform_point, coordinate, point_of}
use Rattle.hd_num.proofs.Sums.{sum_same, sum_through}
use Rattle.hd_num.proofs.Shapes.{bounded-some}

pub three_same : (f g : ℕ → ℤ) → ((j : ℕ) → j < 3 → f j ≡ g j) → three f ≡ three g
three_same f g h = let a = h 0 (lit< tt) in let b = h 1 (lit< tt) in let c = h 2 (lit< tt) in rw (a, b, c) refl

pub table_same : (f g : ℕ → ℕ → ℤ) → ((i j : ℕ) → i < 4 → j < 3 → f i j ≡ g i j) → table f ≡ table g
table_same f g h =
    let row = λ (i : ℕ) (k : i < 4). three_same (f i) (g i) (λ j l. h i j k l) in
    let a = row 0 (lit< tt) in let b = row 1 (lit< tt) in let c = row 2 (lit< tt) in let d = row 3 (lit< tt) in rw (a, b, c, d) refl

get_or-three : (f : ℕ → ℤ) (j : ℕ) → j < 3 → get_or (three f) j (pos 0) ≡ f j
get_or-three f zero h = refl
get_or-three f (suc zero) h = refl
get_or-three f (suc (suc zero)) h = refl
get_or-three f (suc (suc (suc j))) h = absurd (omega arith)

pub entry-table : (f : ℕ → ℕ → ℤ) (i j : ℕ) → i < 4 → j < 3 → entry (table f) i j ≡ f i j
entry-table f zero j h k = get_or-three (f 0) j k
entry-table f (suc zero) j h k = get_or-three (f 1) j k
entry-table f (suc (suc zero)) j h k = get_or-three (f 2) j k
entry-table f (suc (suc (suc zero))) j h k = get_or-three (f 3) j k
entry-table f (suc (suc (suc (suc i)))) j h k = absurd (omega arith)

entry-product : (a b : Rows) (i j : ℕ) → i < 4 → j < 3 → entry (product a b) i j ≡ row_times (affine_entry a i) b j
unfolding product
entry-product a b i j h k = entry-table (λ i. row_times (affine_entry a i) b) i j h k

-- the fourth column of a product
last_column : (row : ℕ → ℤ) (b : Rows) → sum_below 4 (λ k. row k *ℤ affine_entry b k 3) ≡ row 3
last_column row b = let x = row 0 in let y = row 1 in let z = row 2 in let t = row 3 in omega (arith, ints)

-- a row of four numbers that is moved by b and then by c
row_moved : (row next : ℕ → ℤ) (b c : Rows) (j : ℕ) → j < 3 → ((k : ℕ) → k < 4 → next k ≡ sum_below 4 (λ l. row l *ℤ affine_entry b l k)) → row_times next c j ≡ row_times row (product b c) j
row_moved row next b c j h e =
    sum_same 4 (λ k. next k *ℤ entry c k j) (λ k. sum_below 4 (λ l. row l *ℤ affine_entry b l k) *ℤ entry c k j) (λ k l. ap (λ s. s *ℤ entry c k j) (e k l))
    ∙ sum_through 4 4 row (affine_entry b) (λ k. entry c k j)
    ∙ sum_same 4 _ _ (λ l k. ap (λ s. row l *ℤ s) (sym (entry-product b c l j k h)))

-- the numbers of a row of a product, the fourth with them
with_last-moved : (row : ℕ → ℤ) (b : Rows) (k : ℕ) → k < 4 → with_last (three (row_times row b)) (row 3) k ≡ sum_below 4 (λ l. row l *ℤ affine_entry b l k)
with_last-moved row b zero h = refl
with_last-moved row b (suc zero) h = refl
with_last-moved row b (suc (suc zero)) h = refl
with_last-moved row b (suc (suc (suc zero))) h = sym (last_column row b)
with_last-moved row b (suc (suc (suc (suc k)))) h = absurd (omega arith)

extended-product : (a b : Rows) (i k : ℕ) → i < 4 → k < 4 → affine_entry (product a b) i k ≡ sum_below 4 (λ l. affine_entry a i l *ℤ affine_entry b l k)
unfolding product
extended-product a b zero k h l = with_last-moved (affine_entry a 0) b k l
extended-product a b (suc zero) k h l = with_last-moved (affine_entry a 1) b k l
extended-product a b (suc (suc zero)) k h l = with_last-moved (affine_entry a 2) b k l
extended-product a b (suc (suc (suc zero))) k h l = with_last-moved (affine_entry a 3) b k l
extended-product a b (suc (suc (suc (suc i)))) k h l = absurd (omega arith)

pub product-product : (a b c : Rows) → product (product a b) c ≡ product a (product b c)
unfolding product
product-product a b c =
    table_same (λ i. row_times (affine_entry (product a b) i) c) (λ i. row_times (affine_entry a i) (product b c)) (λ i j h k. row_moved (affine_entry a i) (affine_entry (product a b) i) b c j k (λ l m. extended-product a b i l h m))

pub moved-product : (p : Vec3) (a b : Rows) → transform_point p (product a b) ≡ transform_point (transform_point p a) b
unfolding transform_point
moved-product p a b =
    ap point_of (sym (three_same (row_times (coordinate (transform_point p a)) b) (row_times (coordinate p) (product a b)) (λ j h. row_moved (coordinate p) (coordinate (transform_point p a)) a b j h (λ k l. with_last-moved (coordinate p) a k l))))

pub composed-composed : (a b c ab bc : Rows) → if_in_range (product a b) ≡ Some ab → if_in_range (product b c) ≡ Some bc → if_in_range (product ab c) ≡ if_in_range (product a bc)
composed-composed a b c ab bc e f =
    let left = bounded-some (product a b) ab (sym e) in
    let right = bounded-some (product b c) bc (sym f) in
    rw (left, right, product-product a b c) refl

-- ---- the identity

unit_row : (i : ℕ) → i < 4 → (f : ℕ → ℤ) → sum_below 4 (λ k. affine_entry identity i k *ℤ f k) ≡ f i
unit_row zero h f = let x = f 0 in let y = f 1 in let z = f 2 in let t = f 3 in omega (arith, ints)
unit_row (suc zero) h f = let x = f 0 in let y = f 1 in let z = f 2 in let t = f 3 in omega (arith, ints)
unit_row (suc (suc zero)) h f = let x = f 0 in let y = f 1 in let z = f 2 in let t = f 3 in omega (arith, ints)
unit_row (suc (suc (suc zero))) h f = let x = f 0 in let y = f 1 in let z = f 2 in let t = f 3 in omega (arith, ints)
unit_row (suc (suc (suc (suc i)))) h f = absurd (omega arith)

unit_column : (row : ℕ → ℤ) (j : ℕ) → j < 3 → row_times row identity j ≡ row j
unit_column row zero h = let x = row 0 in let y = row 1 in let z = row 2 in let t = row 3 in omega (arith, ints)
unit_column row (suc zero) h = let x = row 0 in let y = row 1 in let z = row 2 in let t = row 3 in omega (arith, ints)
unit_column row (suc (suc zero)) h = let x = row 0 in let y = row 1 in let z = row 2 in let t = row 3 in omega (arith, ints)
unit_column row (suc (suc (suc j))) h = absurd (omega arith)

extended_kept : (m : Rows) (i j : ℕ) → j < 3 → affine_entry m i j ≡ entry m i j
extended_kept m i zero h = refl
extended_kept m i (suc zero) h = refl
extended_kept m i (suc (suc zero)) h = refl
extended_kept m i (suc (suc (suc j))) h = absurd (omega arith)

pub identity_neutral : (m : Rows) → IsShaped m → (product identity m ≡ m) × (product m identity ≡ m)
unfolding product
identity_neutral m e = (
  table_same (λ i. row_times (affine_entry identity i) m) (entry m) (λ i j h k. unit_row i h (λ l. entry m l j)) ∙ sym e,
  table_same (λ i. row_times (affine_entry m i) identity) (entry m) (λ i j h k. unit_column (affine_entry m i) j k ∙ extended_kept m i j k) ∙ sym e,
)

pub moved-identity : (p : Vec3) → transform_point p identity ≡ p
unfolding transform_point
moved-identity p = ap point_of (three_same (row_times (coordinate p) identity) (coordinate p) (unit_column (coordinate p)))

-- a point of three sums
point_same : (x y z a b c : ℤ) → x ≡ a → y ≡ b → z ≡ c → ◌≡◌ {A = Vec3} (record { x = x; y = y; z = z }) (record { x = a; y = b; z = c })
point_same x y z a b c ex ey ez = rw (ex, ey, ez) refl

pub moved-translation : (p v : Vec3) → transform_point p (translation v) ≡ record { x = p.x +ℤ v.x; y = p.y +ℤ v.y; z = p.z +ℤ v.z }
unfolding transform_point
moved-translation p v = let f = row_times (coordinate p) (translation v) in point_same (f 0) (f 1) (f 2) _ _ _ (omega (arith, ints)) (omega (arith, ints)) (omega (arith, ints))

pub moved-scaling : (p v : Vec3) → transform_point p (scaling v) ≡ record { x = p.x *ℤ v.x; y = p.y *ℤ v.y; z = p.z *ℤ v.z }
unfolding transform_point
moved-scaling p v = let f = row_times (coordinate p) (scaling v) in point_same (f 0) (f 1) (f 2) _ _ _ (omega (arith, ints)) (omega (arith, ints)) (omega (arith, ints))
