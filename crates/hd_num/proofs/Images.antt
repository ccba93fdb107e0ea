-- Moved points, in range or not.
use Rattle.std.proofs.Common.{◌≡◌, ◌^◌, Bool, true, false, refl, sym, arith, ℤ, List, [], ◌∷◌, IfSome, Option, Some, None, IsTrue, w64, lit<, unsigned_abs, ◌≤◌, if◌then◌else◌}
use Rattle.std.specs.List.{list_all}
use Rattle.std.proofs.lemmas.Int.{to_z-of_z}
use Rattle.std.proofs.Math.Bool.{and-false}
use Rattle.hd_num.specs.declared.vector.Vec3.{Vec3}
use Rattle.hd_num.specs.Matrices.{is_within}
use Rattle.hd_num.specs.Points.{point_of, components, point_in_range, if_point_in_range}
use Rattle.hd_num.proofs.Sizes.{kept, fits_up_to}

kept_within : (z : ℤ) → IsTrue (is_within (2 ^ 30) z) → kept w64 z ≡ z
kept_within z h = let size : unsigned_abs z ≤ 2 ^ 30 = grind arith in to_z-of_z w64 z (fits_up_to w64 z (2 ^ 30) size (lit< tt))

-- a component that was refused, and one that was kept
pub refused : (b : Bool) (z : ℤ) → ◌≡◌ {A = Option ℤ} None (if b then Some z else None) → b ≡ false
refused true z e = cc
refused false z e = refl

pub was_within : (b : Bool) (x z : ℤ) → ◌≡◌ {A = Option ℤ} (Some x) (if b then Some z else None) → b ≡ true
was_within true x z e = refl
was_within false x z e = cc

pub was_kept : (b : Bool) (x z : ℤ) → ◌≡◌ {A = Option ℤ} (Some x) (if b then Some z else None) → x ≡ z
was_kept true x z e = cc
was_kept false x z e = cc

-- what the code answers for a row that is in range, and for one that isn't
pub kept_point : (row : List ℤ) → IsTrue (list_all (is_within (2 ^ 30)) (components (point_of row))) → Some (point_of row) ≡ if_point_in_range (point_of row)
unfolding if_point_in_range
kept_point row e = rw e refl

pub refused_point : (row : List ℤ) → list_all (is_within (2 ^ 30)) (components (point_of row)) ≡ false → None ≡ if_point_in_range (point_of row)
unfolding if_point_in_range
refused_point row e = rw e refl

some_in_range : (b : Bool) (p : Vec3) → b ≡ point_in_range p → IfSome (if b then Some p else None) (λ q. IsTrue (point_in_range q))
some_in_range true p e = sym e
some_in_range false p e = tt

pub bounded_point-in_range : (r : Option Vec3) (p : Vec3) → r ≡ if_point_in_range p → IfSome r (λ q. IsTrue (point_in_range q))
unfolding if_point_in_range
bounded_point-in_range r p e = rw e (some_in_range (point_in_range p) p refl)

-- the number, and none where it is out of range
abbrev pub bounded_number : ℤ → Option ℤ
bounded_number z = if is_within (2 ^ 30) z then Some z else None

module _ (a b c : ℤ) where
  pub refused_first : None ≡ bounded_number a → None ≡ if_point_in_range (point_of (a ∷ b ∷ c ∷ []))
  refused_first e = let out = refused (is_within (2 ^ 30) a) a e in refused_point (a ∷ b ∷ c ∷ []) (rw out refl)

  pub refused_second : None ≡ bounded_number b → None ≡ if_point_in_range (point_of (a ∷ b ∷ c ∷ []))
  refused_second e = let out = refused (is_within (2 ^ 30) b) b e in refused_point (a ∷ b ∷ c ∷ []) (rw out (and-false (is_within (2 ^ 30) a)))

  pub refused_third : None ≡ bounded_number c → None ≡ if_point_in_range (point_of (a ∷ b ∷ c ∷ []))
  refused_third e =
      let out = refused (is_within (2 ^ 30) c) c e in
      refused_point (a ∷ b ∷ c ∷ []) (rw (out, and-false (is_within (2 ^ 30) b), and-false (is_within (2 ^ 30) a)) refl)

  pub kept_three : (x y z : ℤ) → Some x ≡ bounded_number a → Some y ≡ bounded_number b → Some z ≡ bounded_number c → Some (point_of (kept w64 x ∷ kept w64 y ∷ kept w64 z ∷ [])) ≡ if_point_in_range (point_of (a ∷ b ∷ c ∷ []))
  kept_three x y z ex ey ez =
      let wx = was_within (is_within (2 ^ 30) a) x a ex in
      let wy = was_within (is_within (2 ^ 30) b) y b ey in
      let wz = was_within (is_within (2 ^ 30) c) z c ez in
      let all : IsTrue (list_all (is_within (2 ^ 30)) (a ∷ b ∷ c ∷ [])) = rw (wx, wy, wz) refl in
      rw (was_kept (is_within (2 ^ 30) a) x a ex, was_kept (is_within (2 ^ 30) b) y b ey, was_kept (is_within (2 ^ 30) c) z c ez, kept_within a wx, kept_within b wy, kept_within c wz) (kept_point (a ∷ b ∷ c ∷ []) all)
