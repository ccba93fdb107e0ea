-- What each command does to the state and to the outside, or why it is refused.
use Rattle.std.specs.Prelude.{ℕ, List, [], ◌∷◌, ◌++◌, length, nat_lt, if◌then◌else◌, Result, Ok, Err, codes, decimal}
use Rattle.hd_io.specs.Acts.{Act, file, line}
use Rattle.hd_scene.specs.Scenes.{saturating_succ}
use Rattle.hd_script.specs.declared.command.Command as commands
use Rattle.hd_script.specs.declared.command.Command.TheVariants as command
use Rattle.hd_retained.specs.declared.fault.EditFault.{EditFault}
use Rattle.hd_retained.specs.declared.fault.EditFault.TheVariants as fault
use Rattle.hd_retained.specs.Layers.{Layer}
use Rattle.hd_attributes.specs.Rows.{index}
use Rattle.hd_dump.specs.Dumps.{dump_text}
use Rattle.hd_stack.specs.Stacks.{edited_at}
use Rattle.hd_session.specs.declared.refusal.ScriptWhy.TheVariants.{NoPrim, PrimThere, UnderItself, NoLayer, Later}
use Rattle.hd_session.specs.declared.refusal.Refusal.{Refusal}
use Rattle.hd_session.specs.declared.refusal.Refusal.TheVariants.{Script, Limit, NoMemory}
use Rattle.hd_session.specs.States.{State}

-- acts, and after them a new state or a refusal; and the counts of tiles that are left for frames that end later
pub record Step (E : Type 0) : Type 0 where
  pub acts : List Act
  pub after : Result State E
  pub tiles : List ℕ

-- a step that writes nothing
abbrev pub silent : {E : Type 0} → Result State E → List ℕ → Step E
silent after tiles = record { acts = []; after = after; tiles = tiles }

-- the refusal of an edit
abbrev pub edit_refusal : EditFault → Refusal
edit_refusal fault.NoPrim = Script NoPrim
edit_refusal fault.PrimThere = Script PrimThere
edit_refusal fault.UnderItself = Script UnderItself
edit_refusal (fault.Limit which) = Limit which
edit_refusal fault.NoMemory = NoMemory

-- later edits change the layer of this number
abbrev pub choose_layer : State → ℕ → Result State Refusal
choose_layer s number = if nat_lt number (length s.layers) then Ok (record s { current = number }) else Err (Script NoLayer)

-- an edit of the current layer
abbrev pub change_layers : State → Result (List Layer) EditFault → Result State Refusal
change_layers s (Ok layers) = Ok (record s { layers = layers })
change_layers s (Err why) = Err (edit_refusal why)

-- the layers are committed, and the commit is counted
abbrev pub after_commit : State → State
after_commit s = record s { committed = s.layers; commits = saturating_succ s.commits }

-- the line of a commit: its number, and the number of rows
abbrev pub commit_line : (number rows : ℕ) → List ℕ
commit_line number rows = codes "commit " ++ decimal number ++ codes " rows " ++ decimal rows ++ codes "\n"

-- a commit tells its line
abbrev pub commit : State → List Act
commit s = line (commit_line (saturating_succ s.commits) (length (index s.layers))) ∷ []

-- the line of a dump
abbrev pub dump_line : (name : List ℕ) → List ℕ
dump_line name = codes "dump " ++ name ++ codes "\n"

-- a dump writes what is committed to a file, and then its line
abbrev pub dump : State → (name : List ℕ) → List Act
dump s name = file name (dump_text (index s.committed)) ∷ line (dump_line name) ∷ []

-- what a command does, where frames that it ends have these counts of tiles. Reports and frames are not served yet
abbrev pub step : State → commands.Command → (tiles : List ℕ) → Step Refusal
step s (command.Layer number) tiles = silent (choose_layer s number) tiles
step s (command.Edit edit) tiles = silent (change_layers s (edited_at s.layers s.current edit)) tiles
step s command.Commit tiles = record { acts = commit s; after = Ok (after_commit s); tiles = tiles }
step s (command.Dump name) tiles = record { acts = dump s name; after = Ok s; tiles = tiles }
step s command.Report tiles = silent (Err (Script Later)) tiles
step s (command.Start name width height camera) tiles = silent (Err (Script Later)) tiles
step s (command.Tiles count) tiles = silent (Err (Script Later)) tiles
step s command.Pause tiles = silent (Err (Script Later)) tiles
step s command.Resume tiles = silent (Err (Script Later)) tiles
step s command.Stop tiles = silent (Err (Script Later)) tiles
step s command.Wait tiles = silent (Err (Script Later)) tiles

-- what the end of the script does, which is never refused: nothing, where no frame runs
abbrev pub finish : State → (tiles : List ℕ) → Step Refusal
finish s tiles = silent (Ok s) tiles
