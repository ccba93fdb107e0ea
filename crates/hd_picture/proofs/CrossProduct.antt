-- The cross product in 64 bits.
use Rattle.std.proofs.Common.{◌≡◌, ◌^◌, arith, ap, ◌∙◌, ℤ, ◌-ℤ◌, ◌*ℤ◌, FitsSigned, to_z, of_z, w64}
use Rattle.hd_picture.specs.Limits.{IsWithin}
use Rattle.hd_picture.proofs.Integers.{IsWithin-product, IsWithin-sub, fits_within, read_within}

-- a number that went to its 64 bits and back
abbrev pub read : ℤ → ℤ
read z = to_z w64 (of_z w64 z)

module _ (ex ey wx wy : ℤ) (h : IsWithin (2 ^ 26) ex) (k : IsWithin (2 ^ 26) ey) (l : IsWithin (2 ^ 32) wx) (m : IsWithin (2 ^ 32) wy) where
  left : IsWithin (2 ^ 58) (ex *ℤ wy)
  left = IsWithin-product (2 ^ 26) (2 ^ 32) ex wy h m

  right : IsWithin (2 ^ 58) (ey *ℤ wx)
  right = IsWithin-product (2 ^ 26) (2 ^ 32) ey wx k l

  difference : IsWithin (2 ^ 59) (ex *ℤ wy -ℤ ey *ℤ wx)
  difference = IsWithin-sub (2 ^ 58) (2 ^ 58) (ex *ℤ wy) (ey *ℤ wx) left right

  read_products : read (read ex *ℤ read wy) -ℤ read (read ey *ℤ read wx) ≡ ex *ℤ wy -ℤ ey *ℤ wx
  read_products =
      let e1 = read_within (2 ^ 26) ex (omega arith) h in
      let e2 = read_within (2 ^ 26) ey (omega arith) k in
      let e3 = read_within (2 ^ 32) wx (omega arith) l in
      let e4 = read_within (2 ^ 32) wy (omega arith) m in
      let e5 = read_within (2 ^ 58) (ex *ℤ wy) (omega arith) left in
      let e6 = read_within (2 ^ 58) (ey *ℤ wx) (omega arith) right in
      rw (e1, e2, e3, e4, e5, e6)

  pub cross_fits : FitsSigned w64 (read (read ex *ℤ read wy) -ℤ read (read ey *ℤ read wx))
  cross_fits = rw read_products (fits_within (2 ^ 59) _ (omega arith) difference)

  pub cross_is : read (read (read ex *ℤ read wy) -ℤ read (read ey *ℤ read wx)) ≡ ex *ℤ wy -ℤ ey *ℤ wx
  cross_is = ap read read_products ∙ read_within (2 ^ 59) (ex *ℤ wy -ℤ ey *ℤ wx) (omega arith) difference

  pub cross_small : IsWithin (2 ^ 59) (read (read (read ex *ℤ read wy) -ℤ read (read ey *ℤ read wx)))
  cross_small = rw cross_is difference
