-- The lines that tell why a command was refused, and the numbers that the program ends with.
use Rattle.std.specs.Prelude.{ℕ, List, [], ◌++◌, codes, decimal}
use Rattle.hd_layer.specs.declared.fault.LayerWhy.{LayerWhy}
use Rattle.hd_layer.specs.declared.fault.LayerWhy.TheVariants as why
use Rattle.hd_layer.specs.Limits.{word_of}
use Rattle.hd_session.specs.declared.refusal.ScriptWhy.{ScriptWhy}
use Rattle.hd_session.specs.declared.refusal.ScriptWhy.TheVariants as script
use Rattle.hd_app.specs.declared.status.Status.{Status}
use Rattle.hd_app.specs.declared.status.Status.TheVariants.{Done, Usage, Layer, Script, Limit, ReadFault, WriteFault, NoMemory}
use Rattle.hd_app.specs.declared.status.Place.{Place}
use Rattle.hd_app.specs.declared.status.Place.TheVariants.{Words, File, Line}

-- what the program ends with
abbrev pub number_of : Status → ℕ
number_of Done = 0
number_of Usage = 1
number_of (Layer file line why) = 2
number_of (Script line cause) = 3
number_of (Limit place which count) = 4
number_of (ReadFault name) = 5
number_of WriteFault = 6
number_of NoMemory = 7

-- the word for what is wrong with a layer; a limit has a line of its own
abbrev pub why_word : LayerWhy → List ℕ
why_word why.Header = codes "header"
why_word why.Syntax = codes "syntax"
why_word why.NotUtf8 = codes "not-utf8"
why_word why.Twice = codes "twice"
why_word why.LeftOut = codes "left-out"
why_word why.Fraction = codes "fraction"
why_word (why.Limit which) = word_of which

-- the word for what is wrong with a line of a script
abbrev pub script_word : ScriptWhy → List ℕ
script_word script.Syntax = codes "syntax"
script_word script.NoPrim = codes "no-prim"
script_word script.PrimThere = codes "prim-there"
script_word script.UnderItself = codes "under-itself"
script_word script.NoLayer = codes "no-layer"
script_word script.NoCamera = codes "no-camera"
script_word script.LeftOut = codes "left-out"
script_word script.Fraction = codes "fraction"
script_word script.Later = codes "later"

-- where a limit was passed
abbrev pub place_text : Place → List ℕ
place_text Words = codes "words"
place_text (File name) = name
place_text (Line name line) = name ++ codes " line " ++ decimal line

-- the line that tells a refusal, with its line feed; the other endings have none
abbrev pub fault_line : Status → List ℕ
fault_line Usage = codes "fault usage\n"
fault_line (Layer file line why) = codes "fault layer " ++ file ++ codes " line " ++ decimal line ++ codes " " ++ why_word why ++ codes "\n"
fault_line (Script line cause) = codes "fault script line " ++ decimal line ++ codes " " ++ script_word cause ++ codes "\n"
fault_line (Limit place which count) = codes "fault limit " ++ word_of which ++ codes " " ++ decimal count ++ codes " at " ++ place_text place ++ codes "\n"
fault_line (ReadFault name) = codes "fault read " ++ name ++ codes "\n"
fault_line Done = []
fault_line WriteFault = []
fault_line NoMemory = []
