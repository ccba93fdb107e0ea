-- Notices of values alone.
use Rattle.std.specs.Prelude.{Bool, true, false}
use Rattle.hd_scene.specs.declared.notice.Notice.{Notice}
use Rattle.hd_scene.specs.declared.notice.Notice.TheVariants.{Added, Removed, Dirtied, Renamed}

-- whether a notice says that values may have changed, and no more
abbrev pub is_of_values : Notice → Bool
is_of_values (Added path kind) = false
is_of_values (Removed path) = false
is_of_values (Dirtied path set) = true
is_of_values (Renamed from to) = false
