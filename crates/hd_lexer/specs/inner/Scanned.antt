-- Pieces of the text as the reader holds them.
use Rattle.std.specs.Prelude.{◌≡◌, false, List, [], ◌∷◌, ℕ, ◌<◌, length}
use Rattle.hd_lexer.specs.declared.lexer.Kind.TheVariants.{End}
use Rattle.hd_lexer.specs.declared.lexer.RawToken as coded
use Rattle.hd_lexer.specs.declared.lexer.Quoting as coded_quoting
use Rattle.hd_lexer.specs.Lexing.{RawToken, Quoting, is_blank, raw_token_at}

abbrev pub token_view : coded.RawToken → RawToken
token_view p = record { kind = p.kind; text = p.text.now; more = p.more }

abbrev pub quoting_view : coded_quoting.Quoting → Quoting
quoting_view q = record { close = q.close.now; lines = q.lines; escapes = q.escapes }

-- what is at the front of these bytes
abbrev pub front : List ℕ → RawToken
front [] = record { kind = End; text = []; more = 0 }
front (b ∷ bs) = raw_token_at b bs

-- the bytes begin with no blank
abbrev pub BeginsToken : List ℕ → Type 0
BeginsToken [] = Unit {0}
BeginsToken (b ∷ bs) = is_blank b ≡ false

-- the piece is the first token of the bytes, or their end, and no blank is before it
pub record IsFirst (bs : List ℕ) (p : coded.RawToken) : Type 0 where
  pub no_blank : BeginsToken bs
  pub is : token_view p ≡ front bs
  pub shorter : 0 < length bs → p.more < length bs
