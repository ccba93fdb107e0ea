use Rattle.std.proofs.Common.{◌≡◌, Bool, true, false, not, cond, Option, None, rules, refl, ◌∙◌, ap}
use Rattle.std.proofs.lemmas.Map.Made.{filter_same_pairs}
use Rattle.std.specs.BTreeMap.{get}
use Rattle.std.specs.Map.{lookup}
use Rattle.std.specs.Ordering.{is_eq}
use Rattle.hd_path.specs.Paths.{Path, path_cmp, is_prefix}
use Rattle.hd_tracker.specs.declared.tracker.Tracked.{Tracked}
use Rattle.hd_tracker.proofs.Keeping.{lookup-filter}
use Rattle.hd_tracker.proofs.below.remove_by_test.Goals as goal

turned : (b : Bool) (o : Option Tracked) → cond (not b) o None ≡ cond b None o
turned true o = refl
turned false o = refl

pub returns : goal.returns
returns c = λ p.
    ap (lookup (λ k. is_eq (path_cmp p k))) (filter_same_pairs _ (λ (e : Path × Tracked). not (is_prefix c.args.path.now e.0)) _ (λ k v b w f' t. search rules) _ _ c.retain.ensures.filtered)
    ∙ lookup-filter (λ q. not (is_prefix c.args.path.now q)) c.args.kept.now.entries p
    ∙ turned (is_prefix c.args.path.now p) (get path_cmp c.args.kept.now p)
