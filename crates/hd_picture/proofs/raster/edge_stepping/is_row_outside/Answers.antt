use Rattle.std.proofs.Common.{arith, rules, inl, inr, pos, refl, sym, ◌≡◌, ◌∙◌, ◌≤ℤ◌, ◌<ℤ◌, w64}
use Rattle.std.specs.Int.{int_max}
use Rattle.std.proofs.lemmas.Int.{clamps, ints, to_z-of_z}
use Rattle.hd_picture.proofs.CrossProduct.{read}
use Rattle.hd_picture.proofs.RowEnds.{last_below}
use Rattle.hd_picture.proofs.raster.edge_stepping.is_row_outside.Goals as goal

pub returns-then-max-lt0 : goal.returns-then-max-lt0
returns-then-max-lt0 c = (λ t. inl (omega (arith, ints, clamps), omega (arith, ints, clamps)), λ h. refl)

pub returns-then-max-lt0-2 : goal.returns-then-max-lt0-2
returns-then-max-lt0-2 c = (λ t. inr (inl (omega (arith, ints, clamps), omega (arith, ints, clamps))), λ h. refl)

pub returns : goal.returns
returns c =
    let v : read c.args.v.c ≡ c.args.v.c = omega (arith, ints) in
    let w : read c.args.w.c ≡ c.args.w.c = omega (arith, ints) in
    let most : read c.max-3.result ≡ int_max c.args.v.c c.args.w.c = to_z-of_z w64 c.max-3.result (search rules) ∙ (rw (v, w) at c.max-3.ensures.value) in (
      λ t. inr (inr (omega (arith, ints, clamps), omega (arith, ints, clamps))),
      λ h.
          let a : pos 0 ≤ℤ int_max c.args.v.a c.args.w.a = omega (arith, ints, clamps) in
          let b : pos 0 ≤ℤ int_max c.args.v.b c.args.w.b = omega (arith, ints, clamps) in
          let l : int_max c.args.v.c c.args.w.c <ℤ pos 0 = last_below c.args.v c.args.w a b h in
          rw most (sym (omega (arith, ints))),
    )
