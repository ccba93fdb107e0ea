use Rattle.std.proofs.Common.{rules, sym, ◌∙◌, ap}
use Rattle.std.proofs.lemmas.Map.Made.{map_same_pairs}
use Rattle.std.specs.FinMap.{get}
use Rattle.std.specs.Map.{lookup}
use Rattle.std.specs.Option.{option_map}
use Rattle.std.specs.Ordering.{is_eq}
use Rattle.hd_path.specs.Paths.{path_cmp}
use Rattle.hd_tracker.specs.Tracks.{Tracks, without_bits}
use Rattle.hd_tracker.proofs.Keeping.{get-tracks, lookup-map}
use Rattle.hd_tracker.proofs.tracker.Tracker.clean.Goals as goal

pub returns : goal.returns
returns c = λ p.
    get-tracks c.retain.new.self p
    ∙ ap (lookup (λ k. is_eq (path_cmp p k))) (map_same_pairs _ without_bits _ (λ k v b w f' t. search rules) _ _ c.retain.ensures.filtered)
    ∙ lookup-map without_bits c.self.inside.kept.entries p
    ∙ ap (option_map without_bits) (sym (get-tracks c.self.inside.kept p) ∙ ap (λ (m : Tracks). get m p) c.self.view_is)
