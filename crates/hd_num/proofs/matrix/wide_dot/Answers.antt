-- Each product and sum of the code is exact, since 128 bits have room for any row of 64.
use Rattle.std.proofs.Common.{◌≡◌, ◌≤◌, ◌+◌, ◌*◌, ◌^◌, ◌+ℤ◌, ◌*ℤ◌, pos, get_or, w64, lit<, List, ℕ, ℤ, IsTrue, unsigned_abs, rules, ◌∙◌}
use Rattle.std.specs.List.{list_all}
use Rattle.hd_num.specs.Matrices.{is_within}
use Rattle.hd_num.proofs.Sizes.{IsExact, ThreeProducts, three_products, exact_number, exact_sum, plus, times, kept, fits_up_to, size_at, read_size, read_value, same_products}
use Rattle.hd_num.proofs.matrix.wide_dot.Goals as goal
use Rattle.hd_num.proofs.matrix.wide_dot.Goals.{After-from-6}
use mir.Syntax.{w128}

products : (x y z a b c : ℤ) → unsigned_abs x ≤ 2 ^ 63 → unsigned_abs y ≤ 2 ^ 63 → unsigned_abs z ≤ 2 ^ 63 → unsigned_abs a ≤ 2 ^ 30 → unsigned_abs b ≤ 2 ^ 30 → unsigned_abs c ≤ 2 ^ 30 → ThreeProducts w128 (2 ^ 63) (2 ^ 30) x y z a b c
products x y z a b c hx hy hz ha hb hc =
    let row = λ (v : ℤ) (h : unsigned_abs v ≤ 2 ^ 63). exact_number w128 v (2 ^ 63) h (lit< tt) in
    let column = λ (v : ℤ) (h : unsigned_abs v ≤ 2 ^ 30). exact_number w128 v (2 ^ 30) h (lit< tt) in
    three_products w128 (2 ^ 63) (2 ^ 30) (lit< tt) (row x hx) (row y hy) (row z hz) (column a ha) (column b hb) (column c hc)

whole : (x y z a b c d : ℤ) → ThreeProducts w128 (2 ^ 63) (2 ^ 30) x y z a b c → unsigned_abs d ≤ 2 ^ 30 → IsExact w128 (plus w128 (plus w128 (plus w128 (times w128 x a) (times w128 y b)) (times w128 z c)) d) (x *ℤ a +ℤ y *ℤ b +ℤ z *ℤ c +ℤ d) (2 ^ 63 * 2 ^ 30 + 2 ^ 63 * 2 ^ 30 + 2 ^ 63 * 2 ^ 30 + 2 ^ 30)
whole x y z a b c d p hd = exact_sum p.of_three (exact_number w128 d (2 ^ 30) hd (lit< tt)) (lit< tt)

-- a number of the column, read as 128 bits
column_value : (z : ℤ) (column : List ℤ) (k : ℕ) → IsTrue (list_all (is_within (2 ^ 30)) column) → z ≡ kept w64 (get_or column k (pos 0)) → z ≡ get_or column k (pos 0)
column_value z column k h e = read_value z (get_or column k (pos 0)) e (fits_up_to w64 _ (2 ^ 30) (size_at (2 ^ 30) column k h) (lit< tt))

column_size : (z : ℤ) (column : List ℤ) (k : ℕ) → IsTrue (list_all (is_within (2 ^ 30)) column) → z ≡ kept w64 (get_or column k (pos 0)) → unsigned_abs z ≤ 2 ^ 30
column_size z column k h e = rw (column_value z column k h e) (size_at (2 ^ 30) column k h)

pub overflow_add-result : goal.overflow_add-result
overflow_add-result c =
    let x = read_size c.from.result _ c.from.ensures in
    let y = read_size c.from-3.result _ c.from-3.ensures in
    let a = column_size c.from-2.result c.args.column 0 c.requires c.from-2.ensures in
    let b = column_size c.from-4.result c.args.column 1 c.requires c.from-4.ensures in
    (products c.from.result c.from-3.result c.from-3.result c.from-2.result c.from-4.result c.from-4.result x y y a b b).of_two.fits

three_of : (c : After-from-6) → ThreeProducts w128 (2 ^ 63) (2 ^ 30) c.from.result c.from-3.result c.from-5.result c.from-2.result c.from-4.result c.from-6.result
three_of c =
    let x = read_size c.from.result _ c.from.ensures in
    let y = read_size c.from-3.result _ c.from-3.ensures in
    let z = read_size c.from-5.result _ c.from-5.ensures in
    let a = column_size c.from-2.result c.args.column 0 c.requires c.from-2.ensures in
    let b = column_size c.from-4.result c.args.column 1 c.requires c.from-4.ensures in
    let d = column_size c.from-6.result c.args.column 2 c.requires c.from-6.ensures in
    products _ _ _ _ _ _ x y z a b d

pub overflow_add-result-2 : goal.overflow_add-result-2
overflow_add-result-2 c = (three_of c).of_three.fits

pub overflow_add-result-3 : goal.overflow_add-result-3
overflow_add-result-3 c =
    (whole _ _ _ _ _ _ c.from-7.result (three_of (goal.at.overflow_add-result-3 c).After-from-6) (column_size c.from-7.result c.args.column 3 c.requires c.from-7.ensures)).fits

pub returns : goal.returns
returns c =
    let p = three_of (goal.at.returns c).After-from-6 in
    let d = column_size c.from-7.result c.args.column 3 c.requires c.from-7.ensures in
    let x : c.from.result ≡ get_or c.args.row 0 (pos 0) = read_value _ _ c.from.ensures (search rules) in
    let y : c.from-3.result ≡ get_or c.args.row 1 (pos 0) = read_value _ _ c.from-3.ensures (search rules) in
    let z : c.from-5.result ≡ get_or c.args.row 2 (pos 0) = read_value _ _ c.from-5.ensures (search rules) in
    let a = column_value c.from-2.result c.args.column 0 c.requires c.from-2.ensures in
    let b = column_value c.from-4.result c.args.column 1 c.requires c.from-4.ensures in
    let e = column_value c.from-6.result c.args.column 2 c.requires c.from-6.ensures in
    let f = column_value c.from-7.result c.args.column 3 c.requires c.from-7.ensures in
    (whole _ _ _ _ _ _ c.from-7.result p d).value ∙ same_products x y z a b e f
