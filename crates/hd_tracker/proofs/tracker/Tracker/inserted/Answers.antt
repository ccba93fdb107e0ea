use Rattle.std.proofs.Common.{◌≡◌, ℕ, List, ◌==◌, true, false, not, cond, Option, Some, None, sym, ◌∙◌, ap}
use Rattle.std.specs.BTreeMap as tree
use Rattle.std.specs.FinMap.{get}
use Rattle.std.specs.Ordering.{is_eq}
use Rattle.hd_path.specs.Paths.{Path, path_cmp}
use Rattle.hd_dirty.specs.Kinds.{all_of}
use Rattle.hd_scene.specs.Tells.{is_same_path}
use Rattle.hd_tracker.specs.declared.tracker.Tracked.{Tracked}
use Rattle.hd_tracker.specs.Tracks.{Tracks, bits_numbered, has_bits}
use Rattle.hd_tracker.proofs.Keeping.{get-tracks, is_at_path}
use Rattle.hd_tracker.proofs.tracker.Tracker.inserted.Goals as goal

pub returns-then-is_empty-clause-ok : goal.returns-then-is_empty-clause-ok
returns-then-is_empty-clause-ok c = λ p.
    let none : Option Tracked = None in
    let has : has_bits c.args.kind.now ≡ false = ap (λ n. not (n == 0)) (sym c.all_of-bits.ensures) ∙ ap not (sym (c.is_empty.ensures tt) ∙ c.if-is_empty.true) in
    get-tracks c.remove.new.self p
    ∙ c.remove.ensures.updates.0 p
    ∙ ap (λ b. cond b none (tree.get path_cmp c.self.inside.kept p)) (is_at_path c.args.path.now p)
    ∙ ap (cond (is_same_path c.args.path.now p) none) (sym (get-tracks c.self.inside.kept p) ∙ ap (λ (m : Tracks). get m p) c.self.view_is)
    ∙ ap (λ b. cond (is_same_path c.args.path.now p) (cond b (Some (record { kind = c.args.kind.now; bits = bits_numbered (all_of c.args.kind.now) })) None) (get c.args.self.now p)) (sym has)

pub returns-clause-ok : goal.returns-clause-ok
returns-clause-ok c = λ p.
    let kind = c.args.kind.now in
    let new : Tracked = record { kind = kind; bits = bits_numbered (all_of kind) } in
    let has : has_bits kind ≡ true = ap (λ n. not (n == 0)) (sym c.all_of-bits.ensures) ∙ ap not (sym (c.is_empty.ensures tt) ∙ c.if-is_empty.false) in
    let value : record { kind = c.in_ok-kind.kind; bits = c.all_of-bits.result } ≡ new =
    ap (λ (k : List ℕ). record { kind = k; bits = c.all_of-bits.result }) c.in_ok-kind.ensures ∙ ap (λ (n : ℕ). record { kind = kind; bits = bits_numbered n }) c.all_of-bits.ensures in
    get-tracks c.insert.new.self p
    ∙ c.in_ok-insert.ensures.updates.0 p
    ∙ ap (λ (q : Path). cond (is_eq (path_cmp q p)) (Some (record { kind = c.in_ok-kind.kind; bits = c.all_of-bits.result })) (tree.get path_cmp c.self.inside.kept p)) c.in_ok-key.ensures
    ∙ ap (λ b. cond b (Some (record { kind = c.in_ok-kind.kind; bits = c.all_of-bits.result })) (tree.get path_cmp c.self.inside.kept p)) (is_at_path c.args.path.now p)
    ∙ ap (λ (t : Tracked). cond (is_same_path c.args.path.now p) (Some t) (tree.get path_cmp c.self.inside.kept p)) value
    ∙ ap (cond (is_same_path c.args.path.now p) (Some new)) (sym (get-tracks c.self.inside.kept p) ∙ ap (λ (m : Tracks). get m p) c.self.view_is)
    ∙ ap (λ b. cond (is_same_path c.args.path.now p) (cond b (Some new) None) (get c.args.self.now p)) (sym has)
