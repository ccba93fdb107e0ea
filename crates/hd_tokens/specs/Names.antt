-- Words, and the names of properties: words that colons join.
use Rattle.std.specs.Prelude.{ℕ, List, Bool, ◌&&◌, ◌||◌, not, ◌==◌, codes}
use Rattle.std.specs.List.{list_all, list_any, slice_split}
use Rattle.std.specs.Str.{bytes_eq}
use Rattle.hd_path.specs.Names.{Name, is_identifier}

-- the text is one of the words
abbrev pub is_any : List Name → Name → Bool
is_any words text = list_any (bytes_eq text) words

-- the words that are numbers
abbrev pub is_non_finite_word : List ℕ → Bool
is_non_finite_word text = bytes_eq text (codes "inf") || bytes_eq text (codes "nan")

-- the text is a word
abbrev pub is_plain_word : List ℕ → Bool
is_plain_word text = is_identifier text && not (is_non_finite_word text)

abbrev pub is_colon : ℕ → Bool
is_colon b = b == 58

-- no colon
abbrev pub is_part : ℕ → Bool
is_part b = not (is_colon b)

-- the text is words that colons join
abbrev pub is_joined : List ℕ → Bool
is_joined text = list_all is_plain_word (slice_split is_colon text)
