-- An index that shows a scene.
use Rattle.std.proofs.Common.{◌≡◌, ℕ, ◌+◌, ◌≤◌, ◌^◌, true, List, [], ◌∷◌, map, length, All, Option, Some, None, is_some, refl, sym, ◌∙◌, ap, subst, arith}
use Rattle.std.proofs.lemmas.List.{length-map}
use Rattle.std.specs.FinMap.{empty, entries, keys}
use Rattle.std.specs.List.{filter_map, cons_option}
use Rattle.hd_registry.specs.Entries.{Entries, content_of, users_of, content_at, users_at, HasRoom, Extends, Fresh}
use Rattle.hd_sync.specs.Syncing.{listed, uses_all, Synced}
use Rattle.hd_scene.specs.Scenes.{Scene}
use Rattle.hd_rprim.specs.declared.buffer.Buffer.{Buffer}
use Rattle.hd_rprim.specs.declared.row_table.PathRow.{PathRow}
use Rattle.hd_rprim.specs.Shown.{slots_of, shown}
use Rattle.hd_rprim.specs.PrimRows.{row_of_prim, rows_of}
use Rattle.hd_index.specs.declared.job.RowJob.{RowJob}
use Rattle.hd_index.specs.inner.Jobs.{subject_of, wants_of, placed, planned, HasNoSlots}
use Rattle.hd_index.specs.inner.NoPrims.{no_entries}
use Rattle.hd_index.specs.Index.{EachIsUsed, HasSameEntries, Shows}
use Rattle.hd_index.proofs.Placing.{slots_given, rows_given}

pub no_rows_of_empty : rows_of empty ≡ []
no_rows_of_empty = ap (filter_map row_of_prim) no_entries

none_kept : EachIsUsed []
none_kept slot kept = absurd (by kept)
  where
    by : is_some {T = Buffer} None ≡ true → ⊥
    by e = cc

-- nothing shows a scene that has no rows
pub nothing_shows : (scene : Scene) (table : List PathRow) (es : Entries Buffer) → scene ≡ empty → table ≡ [] → es ≡ [] → Shows scene table es
nothing_shows scene table es no_prims no_table no_entries = rw (no_prims, no_table, no_entries) (record { rows = sym no_rows_of_empty; users = λ slot. refl; used = none_kept })

-- an index of a scene that has no rows has no rows, and nothing is used
no_items : {X Y : Type 0} (f : X → Y) (xs : List X) → map f xs ≡ [] → xs ≡ []
no_items f [] none = refl
no_items f (x ∷ xs) none = absurd (cc)

module _ (scene : Scene) (table : List PathRow) (es : Entries Buffer) (shows : Shows scene table es) (none : rows_of scene ≡ []) where
  no_table : table ≡ []
  no_table = no_items (shown es) table (shows.rows ∙ none)

  no_users : (slot : ℕ) → users_at es slot ≡ 0
  no_users slot = shows.users slot ∙ ap (λ rows. uses_all (map (λ r. slots_of r.row) rows) slot) no_table

  pub has_room : HasRoom (2 ^ 30) es
  has_room slot = let none : users_at es slot ≡ 0 = no_users slot in omega arith

  -- refused, it shows the same scene
  pub shows_still : (new : Entries Buffer) → HasSameEntries es new → Shows scene table new
  shows_still new same = record {
    rows = ap (map (shown new)) no_table ∙ sym none;
    users = λ slot. ap users_of (same slot) ∙ shows.users slot;
    used = λ slot kept. subst (λ n. 1 ≤ n) (sym (ap users_of (same slot))) (shows.used slot (sym (ap (λ o. is_some (content_of o)) (same slot)) ∙ kept));
  }

  kept_are_used : (new : Entries Buffer) (more : ℕ → ℕ) → Extends es new more → Fresh es new more → EachIsUsed new
  kept_are_used new more extends fresh slot kept = by (content_at es slot) refl
    where
      by : (o : Option Buffer) → content_at es slot ≡ o → 1 ≤ users_at new slot
      by None was =
          let given : 1 ≤ more slot = fresh slot was kept in
          let users : users_at new slot ≡ users_at es slot + more slot = extends.users slot in
          omega arith
      by (Some content) was =
          let used : 1 ≤ users_at es slot = shows.used slot (ap is_some was) in
          let users : users_at new slot ≡ users_at es slot + more slot = extends.users slot in
          omega arith

  -- what jobs put into a table shows the scene that they were made for
  pub shows_jobs : (now : Scene) (new : Entries Buffer) (was jobs : List RowJob) (placed_jobs : List PathRow) → map planned was ≡ rows_of now → All HasNoSlots was
      → map subject_of jobs ≡ map subject_of was → map wants_of jobs ≡ map wants_of was → All (λ job. job.is_staged ≡ true) jobs
      → Synced es new (map wants_of was) (map (λ job. listed job.slots) jobs) → placed_jobs ≡ map placed jobs → Shows now placed_jobs new
  shows_jobs now new was jobs placed_jobs planned_was none_before subjects wants staged synced are =
      rw are (record {
        rows = rows_given jobs was subjects wants none_before staged new synced.contents synced.places ∙ planned_was;
        users = λ slot.
            let users : users_at new slot ≡ users_at es slot + uses_all (map (λ job. listed job.slots) jobs) slot = synced.extends.users slot in
            let before : users_at es slot ≡ 0 = no_users slot in
            let same : uses_all (map (λ r. slots_of r.row) (map placed jobs)) slot ≡ uses_all (map (λ job. listed job.slots) jobs) slot =
            ap (λ given. uses_all given slot) (slots_given jobs was subjects wants none_before staged synced.places) in
            omega arith;
        used = kept_are_used new _ synced.extends synced.fresh;
      })

-- a scene has at most as many rows as prims
length-filter_map : {X Y : Type 0} (f : X → Option Y) (xs : List X) → length (filter_map f xs) ≤ length xs
length-filter_map f [] = omega arith
length-filter_map {X} {Y} f (x ∷ xs) = by (f x) (length-filter_map f xs)
  where
    by : (o : Option Y) → length (filter_map f xs) ≤ length xs → length (cons_option o (filter_map f xs)) ≤ length (x ∷ xs)
    by None rest = omega arith
    by (Some y) rest = omega arith

pub few_jobs : (scene : Scene) (jobs : List RowJob) (limit : ℕ) → length (keys scene) ≤ limit → map planned jobs ≡ rows_of scene → length jobs ≤ limit
few_jobs scene jobs limit few are =
    let rows : length (rows_of scene) ≤ length (entries scene) = length-filter_map row_of_prim (entries scene) in
    let prims : length (keys scene) ≡ length (entries scene) = length-map (entries scene) (λ e. e.0) in
    let each : length (map planned jobs) ≡ length jobs = length-map jobs planned in
    let same : length (map planned jobs) ≡ length (rows_of scene) = ap length are in
    omega arith
