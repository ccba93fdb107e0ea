-- Jobs: rows that are read of their prims.
use Rattle.std.specs.Prelude.{◌≡◌, ℕ, if◌then◌else◌, List, [], ◌∷◌, Option, None}
use Rattle.std.specs.Option.{option_or, option_map}
use Rattle.hd_path.specs.Paths.{Path}
use Rattle.hd_dirty.specs.Bits.{number_of}
use Rattle.hd_dirty.specs.Kinds.{all_of}
use Rattle.hd_scene.specs.declared.prims.Primitive.{Primitive}
use Rattle.hd_sync.specs.declared.wants.Slots.{Slots}
use Rattle.hd_rprim.specs.declared.buffer.Buffer.{Buffer}
use Rattle.hd_rprim.specs.declared.row.Row.{Row}
use Rattle.hd_rprim.specs.declared.row.Row.TheVariants.{Rprim, Camera, Material, Instancer}
use Rattle.hd_rprim.specs.declared.row_table.PathRow.{PathRow}
use Rattle.hd_rprim.specs.PrimRows.{row_read, contents_read}
use Rattle.hd_rprim.specs.Readings.{values_of}
use Rattle.hd_rprim.specs.Rows.{blank}
use Rattle.hd_rprim.specs.Staged.{staged, buffers_of}
use Rattle.hd_rprim.specs.Shown.{ShownRow, slots_of, without_slots}
use Rattle.hd_index.specs.declared.job.RowJob.{RowJob}

-- the row of a job when its parts are read
abbrev pub read_row : RowJob → Row
read_row job = if job.is_staged then job.row else staged (number_of job.bits) (values_of job.prim) job.row

-- what a job is about: the path, and the row that is read
abbrev pub subject_of : RowJob → PathRow
subject_of job = record { path = job.path; row = read_row job }

-- the buffers that a job wants
abbrev pub wants_of : RowJob → List (Option Buffer)
wants_of job = buffers_of (number_of job.bits) (values_of job.prim) job.row

-- the row with these slots, each in place of what was there where it is given
abbrev pub with_slots : Slots → Row → Row
with_slots slots (Rprim row) = Rprim (record row {
  points = option_or slots.first row.points;
  triangles = option_or slots.second row.triangles;
  colors = option_or slots.third row.colors;
})
with_slots slots (Camera matrix) = Camera matrix
with_slots slots (Material color) = Material color
with_slots slots (Instancer row) = Instancer row

-- what a job puts into a table
abbrev pub placed : RowJob → PathRow
placed job = record { path = job.path; row = with_slots job.slots job.row }

-- what is shown of a job's row once its slots are given, where it had none before
abbrev pub planned : RowJob → ShownRow
planned job = record { path = job.path; row = without_slots (read_row job); contents = wants_of job }

-- the row has no slots yet
abbrev pub HasNoSlots : RowJob → Type 0
HasNoSlots job = slots_of (read_row job) ≡ None ∷ None ∷ None ∷ []

-- what is shown of the answer for a path, where its kind has rows
abbrev pub shown_of_answer : Path → Primitive → Option ShownRow
shown_of_answer path prim = option_map (λ row. record { path = path; row = row; contents = contents_read row (values_of prim) }) (row_read prim.kind (values_of prim))

-- the path with all bits of the answer's kind, where the kind has rows
abbrev pub dirty_of_answer : Path → Primitive → Option (Path × ℕ)
dirty_of_answer path prim = option_map (λ _. (path, all_of prim.kind)) (blank prim.kind)
