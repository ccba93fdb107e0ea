-- What a report tells of the rows of an index.
use Rattle.std.specs.Prelude.{◌≡◌, ℕ, List, [], map, Option}
use Rattle.std.specs.FinMap.{entries}
use Rattle.std.specs.List.{filter_map}
use Rattle.std.specs.Option.{option_map}
use Rattle.hd_path.specs.Paths.{Path}
use Rattle.hd_dirty.specs.Bits.{number_of}
use Rattle.hd_dirty.specs.Kinds.{all_of}
use Rattle.hd_scene.specs.Scenes.{Scene}
use Rattle.hd_scene.specs.declared.prims.Entry.{Entry}
use Rattle.hd_rprim.specs.Rows.{blank}
use Rattle.hd_index.specs.declared.report.DirtyPath.{DirtyPath}
use Rattle.hd_index.specs.declared.report.Report.{Report}

-- a path, and the bits that are set at it
abbrev pub path_and_bits : DirtyPath → Path × ℕ
path_and_bits dirty = (dirty.path, number_of dirty.bits)

-- a prim's path with all bits of its kind, where the kind has rows
abbrev pub all_dirty_at : Path × Entry → Option (Path × ℕ)
all_dirty_at e = option_map (λ _. (e.0, all_of e.1.kind)) (blank e.1.kind)

-- each row of a scene with all bits of its kind, in path order
abbrev pub all_dirty : Scene → List (Path × ℕ)
all_dirty scene = filter_map all_dirty_at (entries scene)

-- the report has each row of the scene with all bits, and no path that is gone
pub record ReportsAll (scene : Scene) (report : Report) : Type 0 where
  pub dirty : map path_and_bits report.dirty ≡ all_dirty scene
  pub gone : report.gone ≡ []
