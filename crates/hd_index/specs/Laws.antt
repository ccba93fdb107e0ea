-- What follows of an index that shows a scene.
use Rattle.std.specs.Prelude.{◌≡◌, ℕ, ◌≤◌, List, Some}
use Rattle.hd_registry.specs.Entries.{Entries, content_at, users_at, Unique}
use Rattle.hd_scene.specs.Scenes.{Scene}
use Rattle.hd_rprim.specs.declared.buffer.Buffer.{Buffer}
use Rattle.hd_rprim.specs.declared.row_table.PathRow.{PathRow}
use Rattle.hd_rprim.specs.PrimRows.{rows_of}
use Rattle.hd_index.specs.Index.{Shows, HasBuffer, uses_in}

-- rows with equal contents share one entry: its users are all places of the scene's rows that have the buffer
abbrev pub UsersAreUses : Type 0
UsersAreUses = (scene : Scene) (table : List PathRow) (entries : Entries Buffer) → Shows scene table entries → Unique entries
    → (slot : ℕ) (buffer : Buffer) → content_at entries slot ≡ Some buffer → users_at entries slot ≡ uses_in buffer (rows_of scene)

-- each buffer that a row of the scene has is kept at a slot
abbrev pub BuffersAreKept : Type 0
BuffersAreKept = (scene : Scene) (table : List PathRow) (entries : Entries Buffer) → Shows scene table entries
    → (buffer : Buffer) → 1 ≤ uses_in buffer (rows_of scene) → HasBuffer entries buffer
