-- The bytes of a text, cut into the list of its tokens, each with its line.
use Rattle.std.specs.Prelude.{ℕ, zero, suc, ◌+◌, ◌-◌, ◌∷◌, [], List, Bool, true, false, ◌||◌, ◌&&◌, not, nat_eq, nat_lt, ◌==◌, if◌then◌else◌, Option, Some, None, take, drop, fold, codes}
use Rattle.std.specs.List.{prefix_len, starts_with}
use Rattle.hd_path.specs.Names.{is_letter, is_digit, is_word}
use Rattle.hd_tokens.specs.Names.{is_non_finite_word}
use Rattle.hd_lexer.specs.declared.lexer.Kind.{Kind}
use Rattle.hd_lexer.specs.declared.lexer.Kind.TheVariants.{Word, Number, Text, Asset, PathText, OpenRound, CloseRound, OpenSquare, CloseSquare, OpenCurly, CloseCurly, Equals, Comma, Colon, Semicolon, Point, Bad}

-- a plus or a minus
abbrev pub is_sign : ℕ → Bool
is_sign b = (b == 43) || (b == 45)

-- an `e` or an `E`
abbrev pub is_exponent : ℕ → Bool
is_exponent b = (b == 101) || (b == 69)

-- white space
abbrev pub is_space : ℕ → Bool
is_space b = (b == 32) || (b == 9) || (b == 13) || (b == 10)

-- white space, or the beginning of a comment
abbrev pub is_blank : ℕ → Bool
is_blank b = is_space b || (b == 35)

-- what a comment may hold: no line feed
abbrev pub is_comment : ℕ → Bool
is_comment b = not (b == 10)

-- the bytes begin with a byte that passes the test
abbrev pub begins : (ℕ → Bool) → List ℕ → Bool
begins test [] = false
begins test (b ∷ bs) = test b

-- the kind of a token of one byte
abbrev pub mark_of : ℕ → Kind
mark_of b =
    if b == 40 then OpenRound
    else (if b == 41 then CloseRound
    else (if b == 91 then OpenSquare
    else (if b == 93 then CloseSquare
    else (if b == 123 then OpenCurly
    else (if b == 125 then CloseCurly
    else (if b == 61 then Equals
    else (if b == 44 then Comma
    else (if b == 58 then Colon
    else (if b == 59 then Semicolon
    else (if b == 46 then Point
    else Bad))))))))))

-- what begins at a byte: its kind, its text, and how many bytes of it follow the first one
pub record RawToken : Type 0 where
  pub kind : Kind
  pub text : List ℕ
  pub more : ℕ

-- the first byte and the n after it
abbrev pub token_of : Kind → List ℕ → ℕ → RawToken
token_of kind bs n = record { kind = kind; text = take (n + 1) bs; more = n }

-- no token can be formed
abbrev pub no_token : RawToken
no_token = record { kind = Bad; text = []; more = 0 }

-- and all else that begins with a letter is a word
abbrev pub word_kind : List ℕ → Kind
word_kind text = if is_non_finite_word text then Number else Word

-- the word at these bytes, of which n follow the first
abbrev pub word_token : List ℕ → ℕ → RawToken
word_token bs n = token_of (word_kind (take (n + 1) bs)) bs n

-- how many digits are at the front
abbrev pub digits : List ℕ → ℕ
digits bs = prefix_len is_digit bs

-- how many bytes of a point and digits are at the front, where the digits may be missing or not
abbrev pub fraction_len : Bool → List ℕ → ℕ
fraction_len may_miss [] = 0
fraction_len may_miss (b ∷ bs) = if (b == 46) && (may_miss || not (digits bs == 0)) then digits bs + 1 else 0

-- how many bytes of a sign are at the front
abbrev pub sign_len : List ℕ → ℕ
sign_len bs = if begins is_sign bs then 1 else 0

-- how many bytes of an exponent are at the front
abbrev pub exponent_len : List ℕ → ℕ
exponent_len [] = 0
exponent_len (b ∷ bs) =
    let n = digits (drop (sign_len bs) bs) in
    if is_exponent b && not (n == 0) then sign_len bs + n + 1 else 0

-- how many bytes of digits with a point are at the front, and 0 where no digit is among them
abbrev pub mantissa_len : List ℕ → ℕ
mantissa_len bs = let n = digits bs in n + fraction_len (not (n == 0)) (drop n bs)

-- how many bytes of a number without sign are at the front
abbrev pub number_len : List ℕ → ℕ
number_len bs = let n = mantissa_len bs in if n == 0 then 0 else n + exponent_len (drop n bs)

-- the number of n bytes at the front
abbrev pub number_token : List ℕ → ℕ → RawToken
number_token bs n = record { kind = Number; text = take n bs; more = n - 1 }

-- what begins with a sign: a number, or `-inf`
abbrev pub signed_token : List ℕ → RawToken
signed_token bs =
    let n = number_len (drop 1 bs) in
    if not (n == 0) then token_of Number bs n
    else (if starts_with nat_eq bs (codes "-inf") then token_of Number bs 3
    else no_token)

-- how text is enclosed: what closes it, whether a line feed may be in it, and whether a backslash takes the byte after it along
pub record Quoting : Type 0 where
  pub close : List ℕ
  pub lines : Bool
  pub escapes : Bool

-- how many bytes are before the first close, past the n that were seen; `escaped` says whether a backslash is before
abbrev pub inside_from : Quoting → Bool → ℕ → List ℕ → Option ℕ
inside_from q escaped n [] = None
inside_from q escaped n (b ∷ bs) =
    if (b == 10) && not q.lines then None
    else (if escaped then inside_from q false (n + 1) bs
    else (if starts_with nat_eq (b ∷ bs) q.close then Some n
    else inside_from q (q.escapes && (b == 92)) (n + 1) bs))

-- how many bytes are before the first close, if there is one
abbrev pub inside_len : Quoting → List ℕ → Option ℕ
inside_len q bs = inside_from q false 0 bs

-- on one line, after the mark that opened it
abbrev pub on_line : ℕ → Bool → Quoting
on_line mark escapes = record { close = mark ∷ []; lines = false; escapes = escapes }

-- between three marks
abbrev pub between_three : ℕ → Bool → Quoting
between_three mark escapes = record { close = mark ∷ mark ∷ mark ∷ []; lines = true; escapes = escapes }

-- after its mark, n bytes and one closing mark
abbrev pub short_token : Kind → List ℕ → Option ℕ → RawToken
short_token kind bs None = no_token
short_token kind bs (Some n) = record { kind = kind; text = take n bs; more = n + 1 }

-- after its first mark: two more, n bytes and three closing marks, or the short form where nothing closes the long one
abbrev pub long_token : Kind → List ℕ → RawToken → Option ℕ → RawToken
long_token kind bs short None = short
long_token kind bs short (Some n) = record { kind = kind; text = take n (drop 2 bs); more = n + 5 }

-- what begins with this mark, before these bytes
abbrev pub quoted_token : Kind → ℕ → Bool → List ℕ → RawToken
quoted_token kind mark escapes bs =
    let short = short_token kind bs (inside_len (on_line mark escapes) bs) in
    if starts_with nat_eq bs (mark ∷ mark ∷ []) then long_token kind bs short (inside_len (between_three mark escapes) (drop 2 bs)) else short

-- the longest token that begins with this byte, before these
unfoldable pub raw_token_at : ℕ → List ℕ → RawToken
raw_token_at b bs =
    if is_letter b then word_token (b ∷ bs) (prefix_len is_word bs)
    else (if not (number_len (b ∷ bs) == 0) then number_token (b ∷ bs) (number_len (b ∷ bs))
    else (if is_sign b then signed_token (b ∷ bs)
    else (if (b == 34) || (b == 39) then quoted_token Text b true bs
    else (if b == 64 then quoted_token Asset b false bs
    else (if b == 60 then short_token PathText bs (inside_len (on_line 62 false) bs)
    else token_of (mark_of b) (b ∷ bs) 0)))))

-- a line feed begins a line, of which the last numbered one has all that follows
abbrev pub line_after : ℕ → ℕ → ℕ
line_after line b = if (b == 10) && nat_lt line 4294967295 then line + 1 else line

-- the line after some bytes
abbrev pub line_over : ℕ → List ℕ → ℕ
line_over line bs = fold line_after line bs

-- of a blank, how many bytes follow the first: a comment goes to the end of the line
abbrev pub blank_more : ℕ → List ℕ → ℕ
blank_more b bs = if b == 35 then prefix_len is_comment bs else 0

-- a token of the text: its line, what it is, and what it says
pub record Token : Type 0 where
  pub line : ℕ
  pub kind : Kind
  pub text : List ℕ

abbrev pub at_line : ℕ → RawToken → Token
at_line line p = record { line = line; kind = p.kind; text = p.text }

-- the tokens of the bytes, of which the first `skip` belong to a token or a blank before
unfoldable pub cut : ℕ → ℕ → List ℕ → List Token
cut skip line [] = []
cut (suc skip) line (b ∷ bs) = cut skip (line_after line b) bs
cut zero line (b ∷ bs) =
    if is_blank b then cut (blank_more b bs) (line_after line b) bs
    else at_line line (raw_token_at b bs) ∷ cut (raw_token_at b bs).more (line_after line b) bs

-- the tokens of a text, and the line of its end
pub record Tokens : Type 0 where
  pub list : List Token
  pub end : ℕ

-- the tokens of bytes that begin in this line
abbrev pub tokens_from : ℕ → List ℕ → Tokens
tokens_from line bs = record { list = cut 0 line bs; end = line_over line bs }
