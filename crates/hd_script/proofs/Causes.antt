-- Each form gives a value, or a fault of the text.
use Rattle.std.proofs.Common.{◌≢◌, ℕ, nat_lt, ◌==◌, List, [], ◌∷◌, Bool, true, false, Option, Some, Result, Ok, Err, if◌then◌else◌, codes, subst}
use Rattle.std.specs.Str.{bytes_eq, is_utf8}
use Rattle.hd_path.specs.declared.fault.PathFault.{PathFault}
use Rattle.hd_path.specs.declared.fault.PathFault.TheVariants as path
use Rattle.hd_path.specs.Parsing.{name_at, path_of_text}
use Rattle.hd_layer.specs.declared.fault.LayerWhy.{LayerWhy}
use Rattle.hd_layer.specs.declared.fault.LayerWhy.TheVariants as why
use Rattle.hd_layer.specs.declared.limits.Which.TheVariants.{Frame}
use Rattle.hd_layer.specs.declared.spec.Property.{Property}
use Rattle.hd_usda.specs.reading.Cursor.{Fault}
use Rattle.hd_layer.specs.Limits.{limit_of}
use Rattle.hd_tokens.specs.Names.{is_joined}
use Rattle.hd_path.specs.Paths.{Path}
use Rattle.hd_usda.specs.Statement.{reads_property}
use Rattle.hd_script.specs.declared.command.Command.{Command}
use Rattle.hd_script.specs.declared.fault.LineFault.{LineFault}
use Rattle.hd_script.specs.declared.fault.LineFault.TheVariants.{Syntax, LeftOut, Fraction, Limit, NoMemory}
use Rattle.hd_script.specs.Faults.{◌>>=◌}
use Rattle.hd_script.specs.Lines.{Word, words, without_return, is_nothing}
use Rattle.hd_script.specs.Fields.{is_number, number, within_frame, size, is_file_name, file_name, path_fault, checked_name, identifier, prim_type, below_root, prim_path, property_name, property_fault, on_line, property}
use Rattle.hd_script.specs.Commands.{field, ends, alone, layer, define, set, clear, remove, rename, dump, last_path, start, tiles, named_command, command_in, valid_text, reads_text, reads_line}

-- a fault of the text
abbrev IsOfText : LineFault → Type 0
IsOfText Syntax = Unit {0}
IsOfText LeftOut = Unit {0}
IsOfText Fraction = Unit {0}
IsOfText (Limit which) = Unit {0}
IsOfText NoMemory = ⊥

-- a value, or such a fault
abbrev IsTold : {A : Type 0} → Result A LineFault → Type 0
IsTold (Ok x) = Unit {0}
IsTold (Err fault) = IsOfText fault

chain : {A B : Type 0} (r : Result A LineFault) (f : A → Result B LineFault) → IsTold r → ((x : A) → IsTold (f x)) → IsTold (r >>= f)
chain (Ok x) f p q = q x
chain (Err fault) f p q = p

either : {A : Type 0} (t : Bool) (x y : Result A LineFault) → IsTold x → IsTold y → IsTold (if t then x else y)
either true x y p q = p
either false x y p q = q

number_told : (text : List ℕ) → IsTold (number text)
unfolding number
number_told text = either (is_number text) _ _ tt tt

within_frame_told : (n : ℕ) → IsTold (within_frame n)
within_frame_told n = either (n == 0) _ _ tt (either (nat_lt (limit_of Frame) n) _ _ tt tt)

size_told : (text : List ℕ) → IsTold (size text)
unfolding size
size_told text = chain (number text) within_frame (number_told text) within_frame_told

file_name_told : (text : List ℕ) → IsTold (file_name text)
unfolding file_name
file_name_told text = either (is_file_name text) _ _ tt tt

path_fault_told : (fault : PathFault) → IsOfText (path_fault fault)
path_fault_told (path.Syntax at) = tt
path_fault_told path.TooDeep = tt
path_fault_told path.NameTooLong = tt
path_fault_told path.NoMemory = tt

named_told : (r : Result (List ℕ) PathFault) → IsTold (checked_name r)
named_told (Ok name) = tt
named_told (Err fault) = path_fault_told fault

prim_type_told : (text : List ℕ) → IsTold (prim_type text)
unfolding prim_type
prim_type_told text = either (bytes_eq text (codes "-")) (Ok []) (identifier text) tt (named_told (name_at 0 0 text))

below_root_told : (r : Result Path PathFault) → IsTold (below_root r)
below_root_told (Ok []) = tt
below_root_told (Ok (name ∷ names)) = tt
below_root_told (Err fault) = path_fault_told fault

prim_path_told : (text : List ℕ) → IsTold (prim_path text)
unfolding prim_path
prim_path_told text = below_root_told (path_of_text text)

property_name_told : (text : List ℕ) → IsTold (property_name text)
unfolding property_name
property_name_told text = either (is_joined text) _ _ tt tt

property_fault_told : (reason : LayerWhy) → IsOfText (property_fault reason)
property_fault_told why.Syntax = tt
property_fault_told why.LeftOut = tt
property_fault_told why.Fraction = tt
property_fault_told (why.Limit which) = tt
property_fault_told why.Header = tt
property_fault_told why.NotUtf8 = tt
property_fault_told why.Twice = tt

on_line_told : (r : Result (Option Property) Fault) → IsTold (on_line r)
on_line_told (Ok found) = tt
on_line_told (Err fault) = property_fault_told fault.why

property_told : (text : List ℕ) → IsTold (property text)
unfolding property
property_told text = on_line_told (reads_property text)

field_told : {A : Type 0} (form : List ℕ → Result A LineFault) → ((text : List ℕ) → IsTold (form text)) → (ws : List Word) → IsTold (field form ws)
field_told form told [] = tt
field_told form told (w ∷ ws) = chain (form w.text) (λ value. Ok (value, ws)) (told w.text) (λ value. tt)

ends_told : (ws : List Word) → IsTold (ends ws)
ends_told [] = tt
ends_told (w ∷ ws) = tt

-- what is left to say at the end of a line
last : {A : Type 0} (ws : List Word) (value : A) → IsTold (ends ws >>= λ end. Ok value)
last ws value = chain (ends ws) (λ end. Ok value) (ends_told ws) (λ end. tt)

alone_told : (command : Command) (ws : List Word) → IsTold (alone command ws)
unfolding alone
alone_told command ws = last ws command

layer_told : (ws : List Word) → IsTold (layer ws)
unfolding layer
layer_told ws = chain (field number ws) _ (field_told number number_told ws) (λ number. last number.1 _)

define_told : (ws : List Word) → IsTold (define ws)
unfolding define
define_told ws =
    chain (field prim_type ws) _ (field_told prim_type prim_type_told ws)
    (λ kind. chain (field prim_path kind.1) _ (field_told prim_path prim_path_told kind.1) (λ path. last path.1 _))

set_told : (ws : List Word) → IsTold (set ws)
unfolding set
set_told [] = tt
set_told (w ∷ ws) = chain (prim_path w.text) _ (prim_path_told w.text) (λ path. chain (property w.after) _ (property_told w.after) (λ found. tt))

clear_told : (ws : List Word) → IsTold (clear ws)
unfolding clear
clear_told ws =
    chain (field prim_path ws) _ (field_told prim_path prim_path_told ws)
    (λ path. chain (field property_name path.1) _ (field_told property_name property_name_told path.1) (λ name. last name.1 _))

remove_told : (ws : List Word) → IsTold (remove ws)
unfolding remove
remove_told ws = chain (field prim_path ws) _ (field_told prim_path prim_path_told ws) (λ path. last path.1 _)

rename_told : (ws : List Word) → IsTold (rename ws)
unfolding rename
rename_told ws =
    chain (field prim_path ws) _ (field_told prim_path prim_path_told ws)
    (λ from. chain (field prim_path from.1) _ (field_told prim_path prim_path_told from.1) (λ to. last to.1 _))

dump_told : (ws : List Word) → IsTold (dump ws)
unfolding dump
dump_told ws = chain (field file_name ws) _ (field_told file_name file_name_told ws) (λ name. last name.1 _)

last_path_told : (ws : List Word) → IsTold (last_path ws)
unfolding last_path
last_path_told [] = tt
last_path_told (w ∷ ws) = chain (prim_path w.text) _ (prim_path_told w.text) (λ path. last ws _)

start_told : (ws : List Word) → IsTold (start ws)
unfolding start
start_told ws =
    chain (field file_name ws) _ (field_told file_name file_name_told ws)
    (λ name. chain (field size name.1) _ (field_told size size_told name.1)
    (λ width. chain (field size width.1) _ (field_told size size_told width.1)
    (λ height. chain (last_path height.1) _ (last_path_told height.1) (λ camera. tt))))

tiles_told : (ws : List Word) → IsTold (tiles ws)
unfolding tiles
tiles_told ws = chain (field number ws) _ (field_told number number_told ws) (λ count. last count.1 _)

named_command_told : (name : List ℕ) (ws : List Word) → IsTold (named_command name ws)
unfolding named_command
named_command_told name ws =
    either (bytes_eq name (codes "layer")) _ _ (layer_told ws)
    (either (bytes_eq name (codes "def")) _ _ (define_told ws)
    (either (bytes_eq name (codes "set")) _ _ (set_told ws)
    (either (bytes_eq name (codes "clear")) _ _ (clear_told ws)
    (either (bytes_eq name (codes "remove")) _ _ (remove_told ws)
    (either (bytes_eq name (codes "rename")) _ _ (rename_told ws)
    (either (bytes_eq name (codes "commit")) _ _ (alone_told _ ws)
    (either (bytes_eq name (codes "dump")) _ _ (dump_told ws)
    (either (bytes_eq name (codes "report")) _ _ (alone_told _ ws)
    (either (bytes_eq name (codes "start")) _ _ (start_told ws)
    (either (bytes_eq name (codes "tiles")) _ _ (tiles_told ws)
    (either (bytes_eq name (codes "pause")) _ _ (alone_told _ ws)
    (either (bytes_eq name (codes "resume")) _ _ (alone_told _ ws)
    (either (bytes_eq name (codes "stop")) _ _ (alone_told _ ws)
    (either (bytes_eq name (codes "wait")) _ _ (alone_told _ ws) tt))))))))))))))

command_in_told : (ws : List Word) → IsTold (command_in ws)
unfolding command_in
command_in_told [] = tt
command_in_told (w ∷ ws) = named_command_told w.text ws

valid_text_told : (text : List ℕ) → IsTold (valid_text text)
unfolding valid_text
valid_text_told text = either (is_utf8 text) _ _ tt tt

reads_text_told : (text : List ℕ) → IsTold (reads_text text)
unfolding reads_text
reads_text_told text =
    either (is_nothing text) _ _ tt
    (chain (valid_text text) _ (valid_text_told text)
    (λ valid. chain (command_in (words valid)) (λ command. Ok (Some command)) (command_in_told (words valid)) (λ command. tt)))

reads_line_told : (line : List ℕ) → IsTold (reads_line line)
unfolding reads_line
reads_line_told line = reads_text_told (without_return line)

-- lack of memory is no fault of a line
pub no_want : (line : List ℕ) → reads_line line ≢ Err NoMemory
no_want line e = subst IsTold e (reads_line_told line)
