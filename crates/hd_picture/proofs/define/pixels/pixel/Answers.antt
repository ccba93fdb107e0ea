use Rattle.std.proofs.Common.{◌∙◌, ap, arith, sym, subst}
use Rattle.std.specs.Option.{option_map_or}
use Rattle.hd_picture.specs.declared.define.pixels.Fragment.{Fragment}
use Rattle.hd_picture.specs.define.Pixels.{black}
use Rattle.hd_picture.specs.inner.Coverage.{IsNearCenter}
use Rattle.hd_picture.proofs.NearestLemmas.{nearest-nil}
use Rattle.hd_picture.specs.inner.Pixels.{nearer}
use Rattle.hd_picture.proofs.PixelLemmas.{center_near, nearest_step, pixel_is}
use Rattle.hd_picture.proofs.define.pixels.pixel.Goals as goal

pub fragment_at-requires-clause-point : goal.fragment_at-requires-clause-point
fragment_at-requires-clause-point c =
    subst IsNearCenter (sym c.pixel_center-q.ensures)
    (center_near c.args.draws.now.width c.args.draws.now.height c.args.x c.args.y c.requires.drawable.width c.requires.drawable.height (omega arith) (omega arith))

pub loop-tri-init : goal.loop-tri-init
loop-tri-init c = sym nearest-nil

pub loop-tri-preserved : goal.loop-tri-preserved
loop-tri-preserved c =
    nearest_step c.args.draws.now.eye c.pixel_center-q.result c.items-tri-items.result.now c.loop-tri.tri-index _
    (c.nearer-best.ensures ∙ ap (nearer c.loop-tri.best) c.fragment_at.ensures) c.loop-tri-test.true c.loop-tri.invariant

pub returns-in-Some : goal.returns-in-Some
returns-in-Some c =
    sym (ap (λ best. option_map_or (λ (f : Fragment). f.color) best black) c.in-Some.is)
    ∙ pixel_is c.args.draws.now c.args.x c.args.y c.pixel_center-q.result c.items-tri-items.result.now c.loop-tri.tri-index c.loop-tri.best
    c.pixel_center-q.ensures c.items-tri-items.ensures c.loop-tri-test.false c.loop-tri.invariant

pub returns-in-None : goal.returns-in-None
returns-in-None c =
    sym (ap (λ best. option_map_or (λ (f : Fragment). f.color) best black) c.in-None.is)
    ∙ pixel_is c.args.draws.now c.args.x c.args.y c.pixel_center-q.result c.items-tri-items.result.now c.loop-tri.tri-index c.loop-tri.best
    c.pixel_center-q.ensures c.items-tri-items.ensures c.loop-tri-test.false c.loop-tri.invariant
