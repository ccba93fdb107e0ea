use Rattle.std.proofs.Common.{◌≡◌, Bor, Option, Some, None, option_copied, sym, ◌∙◌, ap}
use Rattle.std.specs.FinMap.{get}
use Rattle.hd_tracker.specs.declared.tracker.Tracked.{Tracked}
use Rattle.hd_tracker.specs.Tracks.{Tracks, bits_in}
use Rattle.hd_tracker.proofs.Keeping.{get-tracks}
use Rattle.hd_tracker.proofs.tracker.Tracker.bits.Goals as goal

pub returns-in-Some : goal.returns-in-Some
returns-in-Some c =
    let there : Some c.in-Some.tracked.now ≡ get c.args.self.now c.args.path.now =
    ap (λ (o : Option (Bor Tracked)). option_copied o) (sym c.in-Some.is) ∙ c.get.ensures.value ∙ sym (get-tracks c.self.inside.kept c.args.path.now) ∙ ap (λ (m : Tracks). get m c.args.path.now) c.self.view_is in
    ap bits_in there

pub returns-in-None : goal.returns-in-None
returns-in-None c =
    let none : Option Tracked = None in
    let there : none ≡ get c.args.self.now c.args.path.now =
    ap (λ (o : Option (Bor Tracked)). option_copied o) (sym c.in-None.is) ∙ c.get.ensures.value ∙ sym (get-tracks c.self.inside.kept c.args.path.now) ∙ ap (λ (m : Tracks). get m c.args.path.now) c.self.view_is in
    c.empty.ensures tt ∙ ap bits_in there
