use Rattle.std.specs.List.{cons_option}
use Rattle.std.proofs.Common.{◌≡◌, ℕ, List, [], ◌++◌, All, false, map, filter_map, length, arith, sym, ◌∙◌, ap, subst}
use Rattle.std.proofs.lemmas.List.Elements.{All-nil}
use Rattle.std.specs.FinMap.{get, keys}
use Rattle.std.specs.Vec.Iter.{into_iter_items}
use Rattle.hd_path.specs.Paths.{Path}
use Rattle.hd_scene.specs.Scenes.{Scene, prim_of}
use Rattle.hd_scene.specs.declared.prims.Primitive.{Primitive}
use Rattle.hd_dirty.specs.Bits.{number_of}
use Rattle.hd_rprim.specs.PrimRows.{rows_of}
use Rattle.hd_index.specs.Reports.{all_dirty}
use Rattle.hd_index.specs.declared.job.RowJob.{RowJob}
use Rattle.hd_index.specs.inner.Jobs.{planned, shown_of_answer, dirty_of_answer, HasNoSlots}
use Rattle.hd_index.proofs.ScenePaths.{read_at_keys, one_read, all_read, jobs_ascend}
use Rattle.hd_index.proofs.jobs.jobs_of.Goals as goal

abbrev dirty_of : RowJob → Path × ℕ
dirty_of job = (job.path, number_of job.bits)

-- at first no paths are read, and each is there with its prim
pub loop-path-init : goal.loop-path-init
loop-path-init g c =
    let scene : Scene = g.I.SceneIndex.scene c.args.scene.now in
    let none : c.new-jobs.result.items ≡ [] = c.new-jobs.ensures.items in
    let paths : into_iter_items c.into_iter-path-iterator.result ≡ keys scene = c.into_iter-path-iterator.ensures.into_iter_gives.0 ∙ c.in_ok-paths.ensures.paths in
    record {
      in_step = c.all_paths.ensures.in_step;
      same_scene = c.all_paths.ensures.same_scene;
      same_origin = c.all_paths.ensures.same_origin;
      planned =
          sym (ap (λ (jobs : List RowJob). map planned jobs ++ filter_map (λ p. shown_of_answer p (prim_of (get scene p))) (into_iter_items c.into_iter-path-iterator.result)) none
          ∙ ap (filter_map (λ p. shown_of_answer p (prim_of (get scene p)))) paths
          ∙ read_at_keys (λ p there. shown_of_answer p (prim_of there)) scene);
      bits =
          sym (ap (λ (jobs : List RowJob). map dirty_of jobs ++ filter_map (λ p. dirty_of_answer p (prim_of (get scene p))) (into_iter_items c.into_iter-path-iterator.result)) none
          ∙ ap (filter_map (λ p. dirty_of_answer p (prim_of (get scene p)))) paths
          ∙ read_at_keys (λ p there. dirty_of_answer p (prim_of there)) scene);
      not_staged = subst (All (λ (job : RowJob). job.is_staged ≡ false)) (sym none) (All-nil (λ (job : RowJob). job.is_staged ≡ false));
      no_slots = subst (All HasNoSlots) (sym none) (All-nil HasNoSlots);
    }

-- the row of the next prim comes next
pub loop-path-preserved : goal.loop-path-preserved
loop-path-preserved g c =
    let scene : Scene = g.I.SceneIndex.scene c.args.scene.now in
    let before = c.loop-path.invariant in
    let path : Path = c.in-Some.path in
    let prim : c.in_ok-prim.prim ≡ prim_of (get scene path) = c.in_ok-prim.ensures.value ∙ ap (λ (s : Scene). prim_of (get s path)) before.same_scene in
    let left : List Path = into_iter_items c.loop-path.path-iterator in
    let rest : List Path = into_iter_items c.next.new.self in
    record {
      in_step = c.prim.ensures.in_step;
      same_scene = c.prim.ensures.same_scene ∙ before.same_scene;
      same_origin = c.prim.ensures.same_origin ∙ before.same_origin;
      planned =
          one_read (λ p. shown_of_answer p (prim_of (get scene p))) (map planned c.loop-path.jobs.items) (map planned c.add_job.new.jobs.items) (rows_of scene) path left rest c.in-Some.ensures.steps.0
          (c.in_ok-add_job.ensures.planned ∙ ap (λ (p : Primitive). map planned c.loop-path.jobs.items ++ cons_option (shown_of_answer path p) []) prim) before.planned;
      bits =
          one_read (λ p. dirty_of_answer p (prim_of (get scene p))) (map dirty_of c.loop-path.jobs.items) (map dirty_of c.add_job.new.jobs.items) (all_dirty scene) path left rest c.in-Some.ensures.steps.0
          (c.in_ok-add_job.ensures.bits ∙ ap (λ (p : Primitive). map dirty_of c.loop-path.jobs.items ++ cons_option (dirty_of_answer path p) []) prim) before.bits;
      not_staged = c.in_ok-add_job.ensures.not_staged before.not_staged;
      no_slots = c.in_ok-add_job.ensures.no_slots before.no_slots;
    }

pub returns-clause-ascending : goal.returns-clause-ascending
returns-clause-ascending g c =
    let scene : Scene = g.I.SceneIndex.scene c.args.scene.now in
    let left : List Path = into_iter_items c.loop-path.path-iterator in
    let none : length left ≡ 0 = omega (arith, c.in-None.ensures.steps.0, c.loop-path.path-iterator.rest.ok.0) in
    jobs_ascend scene c.loop-path.jobs.items (all_read (λ p. shown_of_answer p (prim_of (get scene p))) (map planned c.loop-path.jobs.items) (rows_of scene) left none c.loop-path.invariant.planned)
