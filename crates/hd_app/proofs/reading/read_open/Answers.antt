use Rattle.std.proofs.Common.{arith, ap, ◌∙◌}
use Rattle.std.proofs.lemmas.Grind.{common_steps}
use Rattle.hd_io.specs.Shelf.{ShelfState}
use Rattle.hd_app.proofs.Fronts.{all_grow}
use Rattle.hd_app.proofs.reading.read_open.Goals as goal

pub reading-preserved : goal.reading-preserved
reading-preserved g c = record {
  files = ap (λ (s : ShelfState). s.files) c.in_ok-count.ensures.taken ∙ c.reading.invariant.files;
  opened = ap (λ (s : ShelfState). s.opened) c.in_ok-count.ensures.taken ∙ c.reading.invariant.opened;
  faults = ap (λ (s : ShelfState). s.faults) c.in_ok-count.ensures.taken ∙ c.reading.invariant.faults;
  taken = grind (arith, common_steps, ap (λ (s : ShelfState). s.taken) c.in_ok-count.ensures.taken, c.reading.invariant.taken, c.in_ok-extend_from_slice.ensures.len);
  within = grind (arith, common_steps, c.in_ok-count.ensures.count, c.in_ok-extend_from_slice.ensures.len);
  front =
      all_grow _ _ _ _ c.reading.bytes.items _ c.read.new.buffer _ (g.S.Shelf.state c.reading.shelf).taken c.in_ok-count.count
      c.reading.invariant.files c.reading.invariant.opened (c.reading.invariant.taken ∙ c.reading.bytes.ok.0) c.in_ok-count.ensures.count
      c.in_ok-extend_from_slice.ensures.items c.reading.invariant.front c.in_ok-count.ensures.bytes;
}
