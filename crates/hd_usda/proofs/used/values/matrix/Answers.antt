use Rattle.std.proofs.Common.{◌≡◌, ◌∙◌, sym, ap, Bool, true, false, Some, None, Ok, refl, if◌then◌else◌}
use Rattle.hd_num.specs.Matrices.{Rows, if_in_range, in_range}
use Rattle.hd_usda.proofs.used.values.matrix.Goals as goal

-- rows in range are the matrix
same_rows : (r m : Rows) → Some m ≡ if_in_range r → m ≡ r
unfolding if_in_range
same_rows r m h = by_range (in_range r) refl
  where
    by_range : (b : Bool) → in_range r ≡ b → m ≡ r
    by_range true e = let is : Some m ≡ Some r = rw e at h in cc
    by_range false e = let is : Some m ≡ (if false then Some r else None) = rw e at h in absurd (cc)

pub returns-clause-gives : goal.returns-clause-gives
returns-clause-gives c = c.in_ok-rows.ensures.gives ∙ ap (λ (r : Rows). Ok (r, c.rows.new.cursor)) (sym (same_rows c.in_ok-rows.field-0 c.in-Some.matrix c.in-Some.ensures))
