-- What the bytes of a text spell: a layer, or its first fault.
use Rattle.std.specs.Prelude.{ℕ, List, [], ◌∷◌, length, take, drop, Bool, true, ◌&&◌, ◌==◌, Result, Ok, Err, if◌then◌else◌, codes, nat_eq}
use Rattle.std.specs.List.{starts_with}
use Rattle.std.specs.Str.Lossy.{utf8_valid_len}
use Rattle.hd_layer.specs.declared.fault.LayerWhy.TheVariants.{Header, NotUtf8}
use Rattle.hd_layer.specs.declared.spec.LayerSpec.{LayerSpec}
use Rattle.hd_lexer.specs.Lexing.{is_space, tokens_from, line_over}
use Rattle.hd_usda.specs.reading.Cursor.{◌>>=◌, Fault, fault_in}
use Rattle.hd_usda.specs.grammar.Prims.{layer}

-- the bytes are UTF-8, or the fault is at the first byte that begins no valid sequence
unfoldable pub valid_text : List ℕ → Result (List ℕ) Fault
valid_text bytes = if utf8_valid_len bytes == length bytes then Ok bytes else Err (fault_in (line_over 1 (take (utf8_valid_len bytes) bytes)) NotUtf8)

-- the bytes are at their end, or go on with white space
abbrev pub ends_header : List ℕ → Bool
ends_header [] = true
ends_header (b ∷ bs) = is_space b

-- what is after the header
unfoldable pub after_header : List ℕ → Result (List ℕ) Fault
after_header bytes = if starts_with nat_eq bytes (codes "#usda 1.0") && ends_header (drop 9 bytes) then Ok (drop 9 bytes) else Err (fault_in 1 Header)

-- the layer that the bytes spell, or their first fault
unfoldable pub reads : List ℕ → Result LayerSpec Fault
reads bytes = do
  text ← valid_text bytes
  body ← after_header text
  layer (tokens_from 1 body)
