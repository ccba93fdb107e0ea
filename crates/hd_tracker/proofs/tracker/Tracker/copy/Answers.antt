use Rattle.std.proofs.Common.{◌≡◌, List, ◌∷◌, Option, Some, None, refl, sym, ◌∙◌, ap, subst}
use Rattle.std.specs.BTreeMap as tree
use Rattle.std.specs.FinMap.{get, same_map}
use Rattle.std.specs.List.Sorted.{IsStrictlySortedBy}
use Rattle.std.specs.Map.{lookup, keys_of}
use Rattle.std.specs.Option.{option_or}
use Rattle.std.specs.Ordering.{is_eq}
use Rattle.hd_path.specs.Paths.{Path, path_cmp}
use Rattle.hd_scene.proofs.Children.{path_cmp_total, path_cmp_exact}
use Rattle.hd_tracker.specs.declared.tracker.Tracked.{Tracked}
use Rattle.hd_tracker.specs.Tracks.{Tracks}
use Rattle.hd_tracker.proofs.Keeping.{tracks_of, get-tracks, moved_one, sorted_rest}
use Rattle.hd_tracker.proofs.tracker.Tracker.copy.Goals as goal

or_nothing : (o : Option Tracked) → option_or o None ≡ o
or_nothing None = refl
or_nothing (Some t) = refl

pub loop-path-init : goal.loop-path-init
loop-path-init c =
    let all = c.into_iter-path-iterator.ensures.into_iter_gives in
    record {
      ascending = subst (λ (es : List (Path × Tracked)). IsStrictlySortedBy path_cmp (keys_of es)) (sym all.0) all.5;
      same = λ p.
          ap (λ (es : List (Path × Tracked)). option_or (lookup (λ k. is_eq (path_cmp p k)) c.into_iter-path-iterator.result) (lookup (λ k. is_eq (path_cmp p k)) es)) c.new-kept.ensures.empty
          ∙ or_nothing (lookup (λ k. is_eq (path_cmp p k)) c.into_iter-path-iterator.result)
          ∙ ap (lookup (λ k. is_eq (path_cmp p k))) all.0
          ∙ sym (get-tracks c.self.inside.kept p)
          ∙ ap (λ (m : Tracks). get m p) c.self.view_is;
    }

pub loop-path-preserved : goal.loop-path-preserved
loop-path-preserved c =
    let left : c.loop-path.path-iterator ≡ (c.in-Some.path.now, c.in-Some.tracked.now) ∷ c.next.new.self = c.in-Some.ensures.steps in
    let ascending = subst (λ (es : List (Path × Tracked)). IsStrictlySortedBy path_cmp (keys_of es)) left c.loop-path.invariant.ascending in
    record {
      ascending = sorted_rest c.in-Some.path.now (keys_of c.next.new.self) ascending;
      same = λ p.
          moved_one (c.in-Some.path.now, c.in-Some.tracked.now) c.next.new.self (tree.get path_cmp c.loop-path.kept p) (tree.get path_cmp c.put_copy.new.kept p) p ascending (c.in_ok-put_copy.ensures p)
          ∙ ap (λ (es : List (Path × Tracked)). option_or (lookup (λ k. is_eq (path_cmp p k)) es) (tree.get path_cmp c.loop-path.kept p)) (sym left)
          ∙ c.loop-path.invariant.same p;
    }

pub returns : goal.returns
returns c = same_map path_cmp_total path_cmp_exact (tracks_of c.loop-path.kept) c.args.self.now (λ p.
    get-tracks c.loop-path.kept p
    ∙ ap (λ (es : List (Path × Tracked)). option_or (lookup (λ k. is_eq (path_cmp p k)) es) (tree.get path_cmp c.loop-path.kept p)) (sym c.in-None.ensures.steps.0)
    ∙ c.loop-path.invariant.same p)
