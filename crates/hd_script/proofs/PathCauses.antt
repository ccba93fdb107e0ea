-- A path is read, or has a fault of its text.
use Rattle.std.proofs.Common.{◌≢◌, ℕ, ◌+◌, ◌==◌, nat_lt, List, [], ◌∷◌, length, Bool, true, false, Result, Ok, Err, if◌then◌else◌, subst}
use Rattle.hd_path.specs.declared.fault.PathFault.{PathFault}
use Rattle.hd_path.specs.declared.fault.PathFault.TheVariants as path
use Rattle.hd_path.specs.Names.{Name, identifier_len}
use Rattle.hd_path.specs.Paths.{Path}
use Rattle.hd_path.specs.Parsing.{is_slash, pieces, name_at, before_names, names_at, path_of_text}

-- a fault of the text
abbrev IsOfText : PathFault → Type 0
IsOfText (path.Syntax at) = Unit {0}
IsOfText path.TooDeep = Unit {0}
IsOfText path.NameTooLong = Unit {0}
IsOfText path.NoMemory = ⊥

-- a value, or such a fault
abbrev IsTold : {A : Type 0} → Result A PathFault → Type 0
IsTold (Ok x) = Unit {0}
IsTold (Err fault) = IsOfText fault

either : {A : Type 0} (t : Bool) (x y : Result A PathFault) → IsTold x → IsTold y → IsTold (if t then x else y)
either true x y p q = p
either false x y p q = q

name_told : (place before : ℕ) (text : List ℕ) → IsTold (name_at place before text)
name_told place before text =
    either (identifier_len text == 0) _ _ tt
    (either (before == 32) _ _ tt
    (either (nat_lt 64 (identifier_len text)) _ _ tt
    (either (nat_lt (identifier_len text) (length text)) _ _ tt tt)))

before_told : (name : Result Name PathFault) (rest : Result Path PathFault) → IsTold name → IsTold rest → IsTold (before_names name rest)
before_told (Err fault) rest h k = h
before_told (Ok name) (Err fault) h k = k
before_told (Ok name) (Ok names) h k = tt

names_told : (place before : ℕ) (texts : List (List ℕ)) → IsTold (names_at place before texts)
names_told place before [] = tt
names_told place before (text ∷ texts) =
    before_told (name_at place before text) (names_at (place + length text + 1) (before + 1) texts) (name_told place before text) (names_told (place + length text + 1) (before + 1) texts)

path_told : (text : List ℕ) → IsTold (path_of_text text)
path_told [] = tt
path_told (first ∷ []) = either (is_slash first) (Ok []) (Err (path.Syntax 0)) tt tt
path_told (first ∷ second ∷ rest) = either (is_slash first) (names_at 1 0 (pieces (second ∷ rest))) (Err (path.Syntax 0)) (names_told 1 0 (pieces (second ∷ rest))) tt

pub no_path_wants : (text : List ℕ) → path_of_text text ≢ Err path.NoMemory
no_path_wants text e = subst IsTold e (path_told text)

pub no_name_wants : (place before : ℕ) (text : List ℕ) → name_at place before text ≢ Err path.NoMemory
no_name_wants place before text e = subst IsTold e (name_told place before text)
