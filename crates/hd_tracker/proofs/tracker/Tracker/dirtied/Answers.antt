use Rattle.std.proofs.Common.{◌≡◌, ℕ, Option, Some, None, MutBor, is_some, sym, ◌∙◌, ap}
use Rattle.std.specs.BTreeMap as tree
use Rattle.std.specs.FinMap.{get}
use Rattle.std.specs.Option.{option_copied_mut}
use Rattle.std.specs.Int.RustNames.{bit_or}
use Rattle.hd_path.specs.Paths.{path_cmp}
use Rattle.hd_dirty.specs.Bits.{number_of}
use Rattle.hd_scene.specs.declared.notice.Notice.TheVariants.{Dirtied}
use Rattle.hd_tracker.specs.declared.tracker.Tracked.{Tracked}
use Rattle.hd_tracker.specs.Tracks.{Tracks, bits_numbered, with_bits_of, tracked_by}
use Rattle.hd_tracker.proofs.Keeping.{tracks_of, changed_at, unchanged_at}
use Rattle.hd_tracker.proofs.tracker.Tracker.dirtied.Goals as goal
use Rattle.hd_tracker.proofs.tracker.Tracker.dirtied.Goals.{in-Some, in_default}

pub returns : goal.returns
returns c = λ p.
    let m = c.self.inside.kept in
    let path = c.args.path.now in
    let set = c.args.set.now in
    let seen : tracked_by (Dirtied path set) p (get (tracks_of m) p) ≡ tracked_by (Dirtied path set) p (get c.args.self.now p) = ap (λ (tracks : Tracks). tracked_by (Dirtied path set) p (get tracks p)) c.self.view_is in
    elim c.match-get_mut.branch [
      | in-Some w ↦
          let t = w.in-Some.tracked.now in
          let new : Tracked = record { kind = t.kind; bits = w.union-tracked.result } in
          let there : tree.get path_cmp m path ≡ Some t = sym c.get_mut.ensures.value ∙ ap (λ (o : Option (MutBor Tracked)). option_copied_mut o) w.in-Some.is in
          let is : new ≡ with_bits_of set t = ap (λ (n : ℕ). record { kind = t.kind; bits = bits_numbered n }) (w.union-tracked.ensures tt ∙ ap (bit_or (number_of t.bits)) w.bits_of.ensures) in
          ap (λ x. get (tracks_of x.kept) p) w.self-inside-is
          ∙ changed_at m (c.get_mut.follows.lender new) path (with_bits_of set) t new there is ((c.get_mut.follows.holds new).3 (ap is_some there)).0 p
          ∙ seen
      | in_default w ↦
          let none : tree.get path_cmp m path ≡ None = sym c.get_mut.ensures.value ∙ ap (λ (o : Option (MutBor Tracked)). option_copied_mut o) w.in_default.is in
          ap (λ x. get (tracks_of x.kept) p) w.self-inside-is
          ∙ unchanged_at m c.get_mut.follows.lender-at-none path (with_bits_of set) none c.get_mut.follows.holds-at-none p
          ∙ seen
    ]
