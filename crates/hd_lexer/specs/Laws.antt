-- What holds of tokens and of numbers.
use Rattle.std.specs.Prelude.{◌≡◌, ◌↔◌, ◌⊎◌, ℕ, ◌<◌, ◌+◌, ◌*◌, ◌^◌, List, [], ◌∷◌, ◌++◌, Bool, true, false, ◌&&◌, ◌||◌, not, ◌==◌, if◌then◌else◌, length, fold, codes}
use Rattle.std.specs.List.{list_all}
use Rattle.hd_path.specs.Names.{is_digit, is_word}
use Rattle.hd_tokens.specs.Names.{is_non_finite_word, is_plain_word}
use Rattle.hd_lexer.specs.declared.lexer.Kind.{Kind}
use Rattle.hd_lexer.specs.declared.lexer.Kind.TheVariants.{Word, Number, Text, Asset, PathText, OpenRound, CloseRound, OpenSquare, CloseSquare, OpenCurly, CloseCurly, Equals, Comma, Colon, Semicolon, Point, Bad, End}
use Rattle.hd_lexer.specs.Lexing.{begins, is_sign, is_exponent, is_blank, line_over, tokens_from, Token}
use Rattle.hd_lexer.specs.Decimals.{Decimal, is_minus, digits_from, parts_of}
use Rattle.hd_lexer.specs.Exact.{after_point, signed_exponent, exponent_of, is_zero, is_one, is_turn}

-- in a comment after a byte: a `#` begins one, and a line feed ends it
abbrev pub comment_after : Bool → ℕ → Bool
comment_after commented b = (commented || (b == 35)) && not (b == 10)

abbrev pub in_comment : Bool → List ℕ → Bool
in_comment commented bs = fold comment_after commented bs

-- each byte is white space, or part of a comment
abbrev pub are_blanks : Bool → List ℕ → Bool
are_blanks commented [] = true
are_blanks commented (b ∷ bs) = (commented || is_blank b) && are_blanks (comment_after commented b) bs

abbrev pub AreDigits : List ℕ → Type 0
AreDigits bytes = list_all is_digit bytes ≡ true

-- a sign, or none, and what follows it
abbrev pub AfterSign : (List ℕ → Type 0) → List ℕ → Type 0
AfterSign P [] = P []
AfterSign P (b ∷ bs) = P (b ∷ bs) ⊎ ((is_sign b ≡ true) × P bs)

-- a point and digits, or nothing
abbrev pub IsFraction : List ℕ → Type 0
IsFraction [] = true ≡ true
IsFraction (b ∷ bs) = (b ≡ 46) × AreDigits bs

-- an `e` and digits with or without a sign before them, or nothing
abbrev pub IsExponent : List ℕ → Type 0
IsExponent [] = true ≡ true
IsExponent (b ∷ bs) = (is_exponent b ≡ true) × AfterSign (λ ds. (0 < length ds) × AreDigits ds) bs

-- digits with or without a point and an exponent, where one digit at least is before the exponent
pub record IsUnsigned (bytes : List ℕ) : Type 0 where
  pub whole : List ℕ
  pub fraction : List ℕ
  pub exponent : List ℕ
  pub all : bytes ≡ whole ++ (fraction ++ exponent)
  pub whole_is : AreDigits whole
  pub fraction_is : IsFraction fraction
  pub exponent_is : IsExponent exponent
  pub some : (0 < length whole) ⊎ (1 < length fraction)

-- the bytes of a number, which `rest` follows
pub data IsNumber (bytes rest : List ℕ) : Type 0 where
  numeric : AfterSign IsUnsigned bytes → begins is_digit rest ≡ false → IsNumber bytes rest
  non_finite : is_non_finite_word bytes ≡ true → begins is_word rest ≡ false → IsNumber bytes rest
  minus_infinity : bytes ≡ codes "-inf" → IsNumber bytes rest

-- one mark before the text and one after it, or three and three
abbrev pub IsEnclosed : ℕ → List ℕ → List ℕ → Type 0
IsEnclosed mark bytes text = (bytes ≡ mark ∷ (text ++ mark ∷ [])) ⊎ (bytes ≡ mark ∷ mark ∷ mark ∷ (text ++ mark ∷ mark ∷ mark ∷ []))

-- what the text of a path may hold: no `>` and no line feed
abbrev pub in_path : ℕ → Bool
in_path b = not (b == 62) && not (b == 10)

-- a token of one mark
abbrev pub IsMark : List ℕ → List ℕ → List ℕ → Type 0
IsMark mark bytes text = (bytes ≡ mark) × (text ≡ bytes)

-- how a token's bytes, which `rest` follows, give its text. A word does not end before a letter or a digit, nor a number before a digit, but for `-inf`.
-- A byte at which no token can be formed is a token of its own, with or without text: no letter, and no digit
abbrev pub IsWritten : Kind → List ℕ → List ℕ → List ℕ → Type 0
IsWritten Word bytes rest text = (is_plain_word bytes ≡ true) × (begins is_word rest ≡ false) × (text ≡ bytes)
IsWritten Number bytes rest text = IsNumber bytes rest × (text ≡ bytes)
IsWritten Text bytes rest text = IsEnclosed 34 bytes text ⊎ IsEnclosed 39 bytes text
IsWritten Asset bytes rest text = IsEnclosed 64 bytes text
IsWritten PathText bytes rest text = (bytes ≡ 60 ∷ (text ++ 62 ∷ [])) × (list_all in_path text ≡ true)
IsWritten OpenRound bytes rest text = IsMark (codes "(") bytes text
IsWritten CloseRound bytes rest text = IsMark (codes ")") bytes text
IsWritten OpenSquare bytes rest text = IsMark (codes "[") bytes text
IsWritten CloseSquare bytes rest text = IsMark (codes "]") bytes text
IsWritten OpenCurly bytes rest text = IsMark (codes "{") bytes text
IsWritten CloseCurly bytes rest text = IsMark (codes "}") bytes text
IsWritten Equals bytes rest text = IsMark (codes "=") bytes text
IsWritten Comma bytes rest text = IsMark (codes ",") bytes text
IsWritten Colon bytes rest text = IsMark (codes ":") bytes text
IsWritten Semicolon bytes rest text = IsMark (codes ";") bytes text
IsWritten Point bytes rest text = IsMark (codes ".") bytes text
IsWritten Bad bytes rest text = (length bytes ≡ 1) × (begins is_word bytes ≡ false) × ((text ≡ []) ⊎ (text ≡ bytes))
IsWritten End bytes rest text = false ≡ true

-- the text is blanks, the bytes of this token and a rest, and the token's line is that of its first byte
pub record BeginsWith (commented : Bool) (line : ℕ) (text : List ℕ) (t : Token) : Type 0 where
  pub blanks : List ℕ
  pub bytes : List ℕ
  pub rest : List ℕ
  pub all : text ≡ blanks ++ (bytes ++ rest)
  pub are_blank : are_blanks commented blanks ≡ true
  pub no_comment : in_comment commented blanks ≡ false
  pub line_is : t.line ≡ line_over line blanks
  pub some : 0 < length bytes
  pub no_blank : begins is_blank bytes ≡ false
  pub written : IsWritten t.kind bytes rest t.text

-- the text is blanks, a token, blanks, a token, and so on to blanks at its end
abbrev pub AreTokens : Bool → ℕ → List ℕ → List Token → Type 0
AreTokens commented line text [] = are_blanks commented text ≡ true
AreTokens commented line text (t ∷ ts) = (first : BeginsWith commented line text t) × AreTokens false (line_over line (first.blanks ++ first.bytes)) first.rest ts

-- the tokens of a text and the blanks between them are the text, in order, and each token is in the line in which it begins
abbrev pub TokensAreTheText : Type 0
TokensAreTheText = (line : ℕ) (text : List ℕ) → AreTokens false line text (tokens_from line text).list

-- the digits before and after the point, read as one number
abbrev pub numeral : Decimal → ℕ
numeral d = digits_from 0 (d.whole ++ after_point d)

abbrev pub exponent_above : Decimal → ℕ
exponent_above d = if begins is_minus (signed_exponent d) then 0 else exponent_of d

abbrev pub exponent_below : Decimal → ℕ
exponent_below d = if begins is_minus (signed_exponent d) then exponent_of d else 0

-- n is the absolute value: the numeral times ten to the exponent less the number of digits after the point
abbrev pub HasSize : Decimal → ℕ → Type 0
HasSize d n = numeral d * 10 ^ exponent_above d ≡ n * 10 ^ (length (after_point d) + exponent_below d)

-- what is judged to be 0 is 0, and nothing else is
abbrev pub ZeroIsExact : Type 0
ZeroIsExact = (text : List ℕ) → (is_zero (parts_of text) ≡ true) ↔ HasSize (parts_of text) 0

-- what is judged to be 1 is 1, and nothing else is
abbrev pub OneIsExact : Type 0
OneIsExact = (text : List ℕ) → (is_one (parts_of text) ≡ true) ↔ (((parts_of text).negative ≡ false) × HasSize (parts_of text) 1)

-- what is judged to be a multiple of 90 is one, and nothing else is
abbrev pub TurnIsExact : Type 0
TurnIsExact = (text : List ℕ) → (is_turn (parts_of text) ≡ true) ↔ ((k : ℕ) × HasSize (parts_of text) (90 * k))
