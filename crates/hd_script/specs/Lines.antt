-- A line, cut into its words.
use Rattle.std.specs.Prelude.{ℕ, ◌-◌, List, [], ◌∷◌, length, take, drop, slice_index_or, Bool, true, false, ◌||◌, not, ◌==◌, if◌then◌else◌}
use Rattle.std.specs.List.{prefix_len}

-- the line without one carriage return at its end
unfoldable pub without_return : List ℕ → List ℕ
without_return line = let before = length line - 1 in if slice_index_or line before 0 == 13 then take before line else line

-- a space or a tab
abbrev pub is_gap : ℕ → Bool
is_gap b = (b == 32) || (b == 9)

-- any other byte
abbrev pub is_solid : ℕ → Bool
is_solid b = not (is_gap b)

-- the text from its first byte that is no gap on
abbrev pub without_gaps : List ℕ → List ℕ
without_gaps text = drop (prefix_len is_gap text) text

-- nothing, or a comment
abbrev pub is_comment : List ℕ → Bool
is_comment [] = true
is_comment (b ∷ bs) = b == 35

-- spaces and tabs alone, or before a comment
abbrev pub is_nothing : List ℕ → Bool
is_nothing text = is_comment (without_gaps text)

-- a word, and all that is after it in the line
pub record Word : Type 0 where
  pub text : List ℕ
  pub after : List ℕ

-- the word at the front
abbrev pub word_at : List ℕ → Word
word_at text = let n = prefix_len is_solid text in record { text = take n text; after = drop n text }

-- the words of a text, which begins inside a word or not
abbrev pub words_from : Bool → List ℕ → List Word
words_from inside [] = []
words_from inside (b ∷ bs) =
    if is_gap b then words_from false bs
    else (if inside then words_from true bs
    else word_at (b ∷ bs) ∷ words_from true bs)

-- the words of a text
unfoldable pub words : List ℕ → List Word
words text = words_from false text
