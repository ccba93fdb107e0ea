-- What is shown of the rows that staged jobs put into a table.
use Rattle.std.proofs.Common.{◌≡◌, ℕ, true, List, [], ◌∷◌, map, All, Option, Some, None, is_some, refl, sym, ◌∙◌, ap}
use Rattle.std.proofs.lemmas.List.Elements.{All-head, All-tail, All-cons}
use Rattle.std.specs.Option.{option_or}
use Rattle.hd_path.specs.Paths.{Path}
use Rattle.hd_dirty.specs.Bits.{number_of}
use Rattle.hd_registry.specs.Entries.{Entries}
use Rattle.hd_sync.specs.Syncing.{listed, contents_given}
use Rattle.hd_sync.specs.declared.wants.Slots.{Slots}
use Rattle.hd_value.specs.Maps.{Map}
use Rattle.hd_rprim.specs.declared.buffer.Buffer.{Buffer}
use Rattle.hd_rprim.specs.declared.row.Row.{Row}
use Rattle.hd_rprim.specs.declared.row.Row.TheVariants.{Rprim, Camera, Material, Instancer}
use Rattle.hd_rprim.specs.declared.row_table.PathRow.{PathRow}
use Rattle.hd_rprim.specs.Readings.{values_of}
use Rattle.hd_rprim.specs.Staged.{buffers_of}
use Rattle.hd_rprim.specs.Shown.{ShownRow, slots_of, without_slots, shown}
use Rattle.hd_index.specs.declared.job.RowJob.{RowJob}
use Rattle.hd_index.specs.inner.Jobs.{read_row, subject_of, wants_of, with_slots, placed, planned, HasNoSlots}

abbrev no_slots : List (Option ℕ)
no_slots = None ∷ None ∷ None ∷ []

abbrev no_wants : List (Option Buffer)
no_wants = None ∷ None ∷ None ∷ []

or_none : (slot old : Option ℕ) → old ≡ None → option_or slot old ≡ slot
or_none None old none = none
or_none (Some slot) old none = refl

three : (first second third a b c : Option ℕ) → a ∷ b ∷ c ∷ [] ≡ no_slots → option_or first a ∷ option_or second b ∷ option_or third c ∷ [] ≡ first ∷ second ∷ third ∷ []
three first second third a b c none =
    let x : option_or first a ≡ first = or_none first a (cc) in
    let y : option_or second b ≡ second = or_none second b (cc) in
    let z : option_or third c ≡ third = or_none third c (cc) in
    cc

nothing_given : (slot : Option ℕ) → is_some slot ≡ is_some {T = Buffer} None → slot ≡ None
nothing_given None none = refl
nothing_given (Some slot) none = absurd (cc)

none_given : (slots : Slots) → map is_some (listed slots) ≡ map is_some no_wants → no_slots ≡ listed slots
none_given slots none =
    let x : slots.first ≡ None = nothing_given slots.first (cc) in
    let y : slots.second ≡ None = nothing_given slots.second (cc) in
    let z : slots.third ≡ None = nothing_given slots.third (cc) in
    cc

-- the slots that were given are those of the row, where it had none
given_slots : (bits : ℕ) (values : Map) (slots : Slots) (row : Row) → slots_of row ≡ no_slots → map is_some (listed slots) ≡ map is_some (buffers_of bits values row)
    → slots_of (with_slots slots row) ≡ listed slots
given_slots bits values slots (Rprim row) none places = three slots.first slots.second slots.third row.points row.triangles row.colors none
given_slots bits values slots (Camera matrix) none places = none_given slots places
given_slots bits values slots (Material color) none places = none_given slots places
given_slots bits values slots (Instancer row) none places = none_given slots places

same_without : (slots : Slots) (row : Row) → without_slots (with_slots slots row) ≡ without_slots row
same_without slots (Rprim row) = refl
same_without slots (Camera matrix) = refl
same_without slots (Material color) = refl
same_without slots (Instancer row) = refl

-- a job that was staged, had no slots, and was given one exactly where it wanted a buffer
record IsGiven (job : RowJob) : Type 0 where
  pub staged : job.is_staged ≡ true
  pub none : HasNoSlots job
  pub places : map is_some (listed job.slots) ≡ map is_some (wants_of job)

row_is_read : (job : RowJob) → job.is_staged ≡ true → read_row job ≡ job.row
row_is_read job staged = rw staged refl

placed_slots : (job : RowJob) → IsGiven job → slots_of (placed job).row ≡ listed job.slots
placed_slots job given = given_slots (number_of job.bits) (values_of job.prim) job.slots job.row (ap slots_of (sym (row_is_read job given.staged)) ∙ given.none) given.places

shown_as : (path : Path) (a b : Row) (c d : List (Option Buffer)) → a ≡ b → c ≡ d → ◌≡◌ {A = ShownRow} (record { path = path; row = a; contents = c }) (record { path = path; row = b; contents = d })
shown_as path a b c d rows contents = λ i. record { path = path; row = rows i; contents = contents i }

shown_planned : (entries : Entries Buffer) (job : RowJob) → IsGiven job → contents_given entries (listed job.slots) ≡ wants_of job → shown entries (placed job) ≡ planned job
shown_planned entries job given contents = shown_as job.path _ _ _ _
    (same_without job.slots job.row ∙ ap without_slots (sym (row_is_read job given.staged)))
    (ap (contents_given entries) (placed_slots job given) ∙ contents)

abbrev AllGiven : List RowJob → Type 0
AllGiven [] = Unit {0}
AllGiven (job ∷ jobs) = IsGiven job × AllGiven jobs

all_given : (jobs : List RowJob) → All (λ job. job.is_staged ≡ true) jobs → All HasNoSlots jobs
    → map (map is_some) (map (λ job. listed job.slots) jobs) ≡ map (map is_some) (map wants_of jobs) → AllGiven jobs
all_given [] staged none places = tt
all_given (job ∷ jobs) staged none places = (
  record { staged = All-head (λ job. job.is_staged ≡ true) job jobs staged; none = All-head HasNoSlots job jobs none; places = cc },
  all_given jobs (All-tail (λ job. job.is_staged ≡ true) job jobs staged) (All-tail HasNoSlots job jobs none) (cc),
)

slots_placed : (jobs : List RowJob) → AllGiven jobs → map (λ r. slots_of r.row) (map placed jobs) ≡ map (λ job. listed job.slots) jobs
slots_placed [] given = refl
slots_placed (job ∷ jobs) given =
    let first : slots_of (placed job).row ≡ listed job.slots = placed_slots job given.0 in
    let others : map (λ r. slots_of r.row) (map placed jobs) ≡ map (λ job. listed job.slots) jobs = slots_placed jobs given.1 in
    cc

rows_shown : (entries : Entries Buffer) (jobs : List RowJob) → AllGiven jobs → map (contents_given entries) (map (λ job. listed job.slots) jobs) ≡ map wants_of jobs
    → map (shown entries) (map placed jobs) ≡ map planned jobs
rows_shown entries [] given contents = refl
rows_shown entries (job ∷ jobs) given contents =
    let first : shown entries (placed job) ≡ planned job = shown_planned entries job given.0 (cc) in
    let others : map (shown entries) (map placed jobs) ≡ map planned jobs = rows_shown entries jobs given.1 (cc) in
    cc

-- a plan is made of the subject and the wants
abbrev plan_of : PathRow → List (Option Buffer) → ShownRow
plan_of subject wants = record { path = subject.path; row = without_slots subject.row; contents = wants }

same_plan : (old new : RowJob) → subject_of new ≡ subject_of old → wants_of new ≡ wants_of old → planned new ≡ planned old
same_plan old new subjects wants = λ i. plan_of (subjects i) (wants i)

same_plans : (old new : List RowJob) → map subject_of new ≡ map subject_of old → map wants_of new ≡ map wants_of old → map planned new ≡ map planned old
same_plans [] [] subjects wants = refl
same_plans [] (job ∷ new) subjects wants = absurd (cc)
same_plans (was ∷ old) [] subjects wants = absurd (cc)
same_plans (was ∷ old) (job ∷ new) subjects wants =
    let first : planned job ≡ planned was = same_plan was job (cc) (cc) in
    let others : map planned new ≡ map planned old = same_plans old new (cc) (cc) in
    cc

same_slots : (old new : RowJob) → subject_of new ≡ subject_of old → HasNoSlots old → HasNoSlots new
same_slots old new subjects none = ap (λ (r : PathRow). slots_of r.row) subjects ∙ none

no_slots_still : (old new : List RowJob) → map subject_of new ≡ map subject_of old → All HasNoSlots old → All HasNoSlots new
no_slots_still [] [] subjects none = none
no_slots_still [] (job ∷ new) subjects none = absurd (cc)
no_slots_still (was ∷ old) [] subjects none = absurd (cc)
no_slots_still (was ∷ old) (job ∷ new) subjects none = All-cons HasNoSlots job new
    (same_slots was job (cc) (All-head HasNoSlots was old none))
    (no_slots_still old new (cc) (All-tail HasNoSlots was old none))

-- jobs that were staged and given slots after they were planned
module _ (jobs was : List RowJob) (subjects : map subject_of jobs ≡ map subject_of was) (wants : map wants_of jobs ≡ map wants_of was) (none : All HasNoSlots was) (staged : All (λ job. job.is_staged ≡ true) jobs) where
  each_given : map (map is_some) (map (λ job. listed job.slots) jobs) ≡ map (map is_some) (map wants_of was) → AllGiven jobs
  each_given places = all_given jobs staged (no_slots_still was jobs subjects none) (places ∙ ap (map (map is_some)) (sym wants))

  pub slots_given : map (map is_some) (map (λ job. listed job.slots) jobs) ≡ map (map is_some) (map wants_of was) → map (λ r. slots_of r.row) (map placed jobs) ≡ map (λ job. listed job.slots) jobs
  slots_given places = slots_placed jobs (each_given places)

  pub rows_given : (entries : Entries Buffer) → map (contents_given entries) (map (λ job. listed job.slots) jobs) ≡ map wants_of was
      → map (map is_some) (map (λ job. listed job.slots) jobs) ≡ map (map is_some) (map wants_of was) → map (shown entries) (map placed jobs) ≡ map planned was
  rows_given entries contents places = rows_shown entries jobs (each_given places) (contents ∙ sym wants) ∙ same_plans was jobs subjects wants

-- paths are of the subjects
pub same_paths : (old new : List RowJob) → map subject_of new ≡ map subject_of old → map (λ job. job.path) new ≡ map (λ job. job.path) old
same_paths [] [] subjects = refl
same_paths [] (job ∷ new) subjects = absurd (cc)
same_paths (was ∷ old) [] subjects = absurd (cc)
same_paths (was ∷ old) (job ∷ new) subjects =
    let subject : subject_of job ≡ subject_of was = (cc) in
    let first : job.path ≡ was.path = ap (λ (r : PathRow). r.path) subject in
    let others : map (λ job. job.path) new ≡ map (λ job. job.path) old = same_paths old new (cc) in
    cc
