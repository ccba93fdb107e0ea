-- Commands that a session may be handed.
use Rattle.std.specs.Prelude.{ℕ, Bool, true, ◌&&◌, nat_le, Option, Some, None}
use Rattle.hd_layer.specs.declared.limits.Which.TheVariants.{Frame}
use Rattle.hd_layer.specs.Edits.{is_edit}
use Rattle.hd_layer.specs.WellFormed.{is_below_root}
use Rattle.hd_layer.specs.Limits.{limit_of}
use Rattle.hd_path.specs.Paths.{Path}
use Rattle.hd_script.specs.declared.command.Command.{Command}
use Rattle.hd_script.specs.declared.command.Command.TheVariants.{Layer, Edit, Commit, Dump, Report, Start, Tiles, Pause, Resume, Stop, Wait}

-- a width or a height of a frame
abbrev pub is_size : ℕ → Bool
is_size n = nat_le 1 n && nat_le n (limit_of Frame)

-- no path, or one that is not the root
abbrev pub is_camera : Option Path → Bool
is_camera None = true
is_camera (Some path) = is_below_root path

-- none of its paths is the root, its width and its height are those of a frame, and a property in it is well formed
abbrev pub is_command : Command → Bool
is_command (Layer number) = true
is_command (Edit edit) = is_edit edit
is_command Commit = true
is_command (Dump name) = true
is_command Report = true
is_command (Start name width height camera) = is_size width && is_size height && is_camera camera
is_command (Tiles count) = true
is_command Pause = true
is_command Resume = true
is_command Stop = true
is_command Wait = true
