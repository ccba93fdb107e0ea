use Rattle.std.proofs.Common.{arith, ◌≡◌, ◌++◌, ◌∙◌, get_or, pos, ap, sym, append_assoc, to_z, of_z, w64}
use Rattle.std.proofs.lemmas.Int.{to_z-of_z}
use Rattle.hd_rprim.specs.Fans.{fans_from}
use Rattle.hd_rprim.proofs.Counting.{takes_next, faces_next}
use Rattle.hd_rprim.proofs.fans.push_fans.Goals as goal

pub loop-number-preserved : goal.loop-number-preserved
loop-number-preserved c =
    let same : to_z w64 (of_z w64 (get_or c.args.counts.now c.loop-number.number (pos 0))) ≡ get_or c.args.counts.now c.loop-number.number (pos 0) = grind (arith, to_z-of_z) in
    let left = takes_next c.args.counts.now c.loop-number.number (to_z w64 (of_z w64 (get_or c.args.counts.now c.loop-number.number (pos 0)))) c.loop-number.rest.now c.loop-number-test.true same c.loop-number.invariant.left in
    let next = faces_next c.args.counts.now c.loop-number.number (to_z w64 (of_z w64 (get_or c.args.counts.now c.loop-number.number (pos 0)))) c.loop-number.rest.now c.loop-number-test.true same in
    record {
      left = rw c.split_face.ensures.after left;
      made =
          rw (c.in_ok-push_fan.ensures, c.split_face.ensures.face, c.split_face.ensures.after, append_assoc)
          (ap (λ pieces. c.loop-number.made.items ++ fans_from c.loop-number.number pieces) (sym next) ∙ c.loop-number.invariant.made);
    }
