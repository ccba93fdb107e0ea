-- The laws of steps.
use Rattle.std.proofs.Common.{refl}
use Rattle.hd_script.specs.declared.command.Command.TheVariants as command
use Rattle.hd_session.specs.Laws.{OthersAreLater, StatesIgnoreTiles, SilentWriteNothing, DumpsTellWhatIsCommitted}

pub others_are_later : OthersAreLater
others_are_later s (command.Layer number) tiles h = cc
others_are_later s (command.Edit edit) tiles h = cc
others_are_later s command.Commit tiles h = cc
others_are_later s (command.Dump name) tiles h = cc
others_are_later s command.Report tiles h = refl
others_are_later s (command.Start name width height camera) tiles h = refl
others_are_later s (command.Tiles count) tiles h = refl
others_are_later s command.Pause tiles h = refl
others_are_later s command.Resume tiles h = refl
others_are_later s command.Stop tiles h = refl
others_are_later s command.Wait tiles h = refl

pub states_ignore_tiles : StatesIgnoreTiles
states_ignore_tiles s (command.Layer number) one other = refl
states_ignore_tiles s (command.Edit edit) one other = refl
states_ignore_tiles s command.Commit one other = refl
states_ignore_tiles s (command.Dump name) one other = refl
states_ignore_tiles s command.Report one other = refl
states_ignore_tiles s (command.Start name width height camera) one other = refl
states_ignore_tiles s (command.Tiles count) one other = refl
states_ignore_tiles s command.Pause one other = refl
states_ignore_tiles s command.Resume one other = refl
states_ignore_tiles s command.Stop one other = refl
states_ignore_tiles s command.Wait one other = refl

pub silent_write_nothing : SilentWriteNothing
silent_write_nothing s (command.Layer number) tiles h = refl
silent_write_nothing s (command.Edit edit) tiles h = refl
silent_write_nothing s command.Commit tiles h = cc
silent_write_nothing s (command.Dump name) tiles h = cc
silent_write_nothing s command.Report tiles h = refl
silent_write_nothing s (command.Start name width height camera) tiles h = refl
silent_write_nothing s (command.Tiles count) tiles h = refl
silent_write_nothing s command.Pause tiles h = refl
silent_write_nothing s command.Resume tiles h = refl
silent_write_nothing s command.Stop tiles h = refl
silent_write_nothing s command.Wait tiles h = refl

pub tell_what_is_committed : DumpsTellWhatIsCommitted
tell_what_is_committed s layers name tiles = refl
