-- Each product and sum of the code is exact, since the numbers are small enough.
use Rattle.std.proofs.Common.{◌+◌, ◌*◌, ◌^◌, ◌+ℤ◌, ◌*ℤ◌, pos, get_or, w64, lit<, List, ℕ, ℤ, IsTrue, arith, ◌∙◌, sym}
use Rattle.std.specs.List.{list_all}
use Rattle.hd_num.specs.Matrices.{is_within}
use Rattle.hd_num.proofs.Sizes.{IsExact, ThreeProducts, three_products, exact_number, exact_product, exact_sum, plus, times, size_at, sum_from_zero}
use Rattle.hd_num.proofs.matrix.dot.Goals as goal

products : (row column : List ℤ) → IsTrue (list_all (is_within (2 ^ 31)) row) → IsTrue (list_all (is_within (2 ^ 30)) column) → ThreeProducts w64 (2 ^ 31) (2 ^ 30) (get_or row 0 (pos 0)) (get_or row 1 (pos 0)) (get_or row 2 (pos 0)) (get_or column 0 (pos 0)) (get_or column 1 (pos 0)) (get_or column 2 (pos 0))
products row column h l =
    let x = λ (n : ℕ). exact_number w64 (get_or row n (pos 0)) (2 ^ 31) (size_at _ row n h) (lit< tt) in
    let a = λ (n : ℕ). exact_number w64 (get_or column n (pos 0)) (2 ^ 30) (size_at _ column n l) (lit< tt) in
    three_products w64 (2 ^ 31) (2 ^ 30) (lit< tt) (x 0) (x 1) (x 2) (a 0) (a 1) (a 2)

whole : (row column : List ℤ) (last : ℤ) → IsTrue (list_all (is_within (2 ^ 31)) row) → IsTrue (is_within 1 last) → IsTrue (list_all (is_within (2 ^ 30)) column) → IsExact w64 (plus w64 (plus w64 (plus w64 (times w64 (get_or row 0 (pos 0)) (get_or column 0 (pos 0))) (times w64 (get_or row 1 (pos 0)) (get_or column 1 (pos 0)))) (times w64 (get_or row 2 (pos 0)) (get_or column 2 (pos 0)))) (times w64 last (get_or column 3 (pos 0)))) (get_or row 0 (pos 0) *ℤ get_or column 0 (pos 0) +ℤ get_or row 1 (pos 0) *ℤ get_or column 1 (pos 0) +ℤ get_or row 2 (pos 0) *ℤ get_or column 2 (pos 0) +ℤ last *ℤ get_or column 3 (pos 0)) (2 ^ 31 * 2 ^ 30 + 2 ^ 31 * 2 ^ 30 + 2 ^ 31 * 2 ^ 30 + 1 * 2 ^ 30)
whole row column last h k l =
    let t = exact_number w64 last 1 (grind arith) (lit< tt) in
    let d = exact_number w64 (get_or column 3 (pos 0)) (2 ^ 30) (size_at _ column 3 l) (lit< tt) in
    exact_sum (products row column h l).of_three (exact_product t d (lit< tt)) (lit< tt)

pub overflow_mul-result-3 : goal.overflow_mul-result-3
overflow_mul-result-3 c = (products c.args.row c.args.column c.requires.row_in c.requires.column_in).third.fits

pub overflow_add-result : goal.overflow_add-result
overflow_add-result c = (products c.args.row c.args.column c.requires.row_in c.requires.column_in).of_two.fits

pub overflow_add-result-2 : goal.overflow_add-result-2
overflow_add-result-2 c = (products c.args.row c.args.column c.requires.row_in c.requires.column_in).of_three.fits

pub overflow_add-result-3 : goal.overflow_add-result-3
overflow_add-result-3 c = (whole c.args.row c.args.column c.args.last c.requires.row_in c.requires.last_in c.requires.column_in).fits

pub returns : goal.returns
returns c =
    (whole c.args.row c.args.column c.args.last c.requires.row_in c.requires.last_in c.requires.column_in).value ∙ sym (sum_from_zero (get_or c.args.row 0 (pos 0) *ℤ get_or c.args.column 0 (pos 0)) _ _ _)
