-- Reading tokens from left to right: a form of the grammar takes its tokens and gives its value and the tokens after it,
-- or the first fault that is met.
use Rattle.std.specs.Prelude.{◌≡◌, ℕ, List, [], ◌∷◌, length, Result, Ok, Err, Bool, ◌&&◌, ◌==◌, if◌then◌else◌}
use Rattle.std.specs.Str.{bytes_eq}
use Rattle.hd_lexer.specs.declared.lexer.Kind.{Kind}
use Rattle.hd_lexer.specs.declared.lexer.Kind.TheVariants.{Word, Number, Text, Asset, PathText, OpenRound, CloseRound, OpenSquare, CloseSquare, OpenCurly, CloseCurly, Equals, Comma, Colon, Semicolon, Point, Bad, End}
use Rattle.hd_layer.specs.declared.fault.LayerWhy.{LayerWhy}
use Rattle.hd_layer.specs.declared.fault.LayerWhy.TheVariants.{Syntax}
use Rattle.hd_layer.specs.declared.fault.LayerFault.{LayerFault}
use Rattle.hd_layer.specs.declared.fault.LayerFault.TheVariants.{At, NoMemory}
use Rattle.hd_lexer.specs.Lexing.{Token, Tokens}

-- a fault of the text: its line, and what is wrong
pub record Fault : Type 0 where
  pub line : ℕ
  pub why : LayerWhy

-- what takes tokens and gives nothing but what is left
abbrev pub Past : Type 0
Past = Tokens → Result Tokens Fault

-- what takes tokens and gives a value and what is left
abbrev pub Form : Type 0 → Type 0
Form A = Tokens → Result (A × Tokens) Fault

-- the kind of the next token
abbrev pub first_kind : List Token → Kind
first_kind [] = End
first_kind (t ∷ ts) = t.kind

abbrev pub kind : Tokens → Kind
kind ts = first_kind ts.list

-- what the next token says
abbrev pub first_text : List Token → List ℕ
first_text [] = []
first_text (t ∷ ts) = t.text

abbrev pub text : Tokens → List ℕ
text ts = first_text ts.list

-- the line of the next token, or of the end
abbrev pub first_line : List Token → ℕ → ℕ
first_line [] end = end
first_line (t ∷ ts) end = t.line

abbrev pub line_of : Tokens → ℕ
line_of ts = first_line ts.list ts.end

-- the tokens after the next
abbrev pub tail : List Token → List Token
tail [] = []
tail (t ∷ ts) = ts

abbrev pub rest : Tokens → Tokens
rest ts = record { list = tail ts.list; end = ts.end }

-- how many tokens are left
abbrev pub count : Tokens → ℕ
count ts = length ts.list

-- a number for each kind, by which they are told apart
abbrev pub number_of : Kind → ℕ
number_of Word = 0
number_of Number = 1
number_of Text = 2
number_of Asset = 3
number_of PathText = 4
number_of OpenRound = 5
number_of CloseRound = 6
number_of OpenSquare = 7
number_of CloseSquare = 8
number_of OpenCurly = 9
number_of CloseCurly = 10
number_of Equals = 11
number_of Comma = 12
number_of Colon = 13
number_of Semicolon = 14
number_of Point = 15
number_of Bad = 16
number_of End = 17

abbrev pub same_kind : Kind → Kind → Bool
same_kind k l = number_of k == number_of l

-- the next token is of this kind
unfoldable pub is : Kind → Tokens → Bool
is k ts = same_kind (kind ts) k

-- the next token is this word
unfoldable pub is_word : List ℕ → Tokens → Bool
is_word word ts = is Word ts && bytes_eq (text ts) word

infixl 10 ◌>>=◌
abbrev pub ◌>>=◌ : {A B : Type 0} → Result A Fault → (A → Result B Fault) → Result B Fault
(Ok x) >>= f = f x
(Err e) >>= f = Err e

-- a fault at a token of this line
abbrev pub fault_in : ℕ → LayerWhy → Fault
fault_in line why = record { line = line; why = why }

-- a fault at the next token
abbrev pub fault_at : Tokens → LayerWhy → Fault
fault_at ts why = fault_in (line_of ts) why

-- the tokens after the next, which is of this kind
unfoldable pub take : Kind → Past
take k ts = if is k ts then Ok (rest ts) else Err (fault_at ts Syntax)

-- the next token may be of this kind, and is then passed
unfoldable pub past_one : Kind → Tokens → Tokens
past_one k ts = if is k ts then rest ts else ts

-- what a function that failed says of what was to be read
abbrev pub Fails : {Y : Type 0} → LayerFault → Result Y Fault → Type 0
Fails NoMemory read = Unit {0}
Fails (At line why) read = read ≡ Err (fault_in line why)

-- what a function returned, seen by view, is what was to be read, but where memory ran out
abbrev pub Gives : {X Y : Type 0} → (X → Y) → Result X LayerFault → Result Y Fault → Type 0
Gives view (Ok x) read = read ≡ Ok (view x)
Gives view (Err e) read = Fails e read
