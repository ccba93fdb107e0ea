-- A text is cut into its lines.
use Rattle.std.proofs.Common.{◌≡◌, ℕ, suc, ◌+◌, ◌-◌, ◌<◌, ◌≤◌, ◌∙◌, Bool, true, false, cond, List, [], ◌∷◌, length, take, drop, Some, None, refl, sym, ap, arith, nat_eq, nat_lt, length-drop}
use Rattle.std.specs.List.{position, position_or_len}
use Rattle.std.proofs.lemmas.Bool.Decides.{nat_tests}
use Rattle.std.proofs.lemmas.List.{take_all}
use Rattle.std.proofs.lemmas.List.Recursion.{is_position_or_len}
use Rattle.hd_app.specs.Scripts.{lines_of, with_byte}

-- a line feed
abbrev pub is_feed : ℕ → Bool
is_feed byte = nat_eq byte 10

-- where the first line feed is, or the length of a text without one
abbrev pub feed_or_len : List ℕ → ℕ
feed_or_len [] = 0
feed_or_len (b ∷ bs) = cond (is_feed b) 0 (suc (feed_or_len bs))

-- the line up to the first line feed, and those after it
first_line_if : (b : ℕ) (bs : List ℕ) (feed : Bool) → cond feed 0 (suc (feed_or_len bs)) < suc (length bs)
    → (feed_or_len bs < length bs → lines_of bs ≡ take (feed_or_len bs) bs ∷ lines_of (drop (suc (feed_or_len bs)) bs))
    → cond feed ([] ∷ lines_of bs) (with_byte b (lines_of bs))
    ≡ take (cond feed 0 (suc (feed_or_len bs))) (b ∷ bs) ∷ lines_of (drop (suc (cond feed 0 (suc (feed_or_len bs)))) (b ∷ bs))
first_line_if b bs true lt after = refl
first_line_if b bs false lt after = ap (with_byte b) (after (omega (arith, lt)))

first_line : (text : List ℕ) → feed_or_len text < length text → lines_of text ≡ take (feed_or_len text) text ∷ lines_of (drop (suc (feed_or_len text)) text)
first_line [] lt = absurd (omega (arith, lt))
first_line (b ∷ bs) lt = first_line_if b bs (is_feed b) lt (first_line bs)

one_line_if : (b : ℕ) (bs : List ℕ) (feed : Bool) → suc (length bs) ≤ cond feed 0 (suc (feed_or_len bs))
    → (length bs ≤ feed_or_len bs → lines_of bs ≡ bs ∷ []) → cond feed ([] ∷ lines_of bs) (with_byte b (lines_of bs)) ≡ (b ∷ bs) ∷ []
one_line_if b bs true le after = absurd (omega (arith, le))
one_line_if b bs false le after = ap (with_byte b) (after (omega (arith, le)))

one_line : (text : List ℕ) → length text ≤ feed_or_len text → lines_of text ≡ text ∷ []
one_line [] le = refl
one_line (b ∷ bs) le = one_line_if b bs (is_feed b) le (one_line bs)

feed_is : (text : List ℕ) → feed_or_len text ≡ position_or_len is_feed text
feed_is text = is_position_or_len feed_or_len is_feed refl (λ b bs. ap (λ (n : ℕ). cond (is_feed b) 0 n) (omega arith)) text

found_if : (feed : Bool) (n end : ℕ) → cond feed (Some n) None ≡ Some end → (feed ≡ true) × (n ≡ end)
found_if true n end is = (refl, cc)
found_if false n end is = cc

missed_if : (feed : Bool) (n : ℕ) → cond feed (Some n) None ≡ None → feed ≡ false
missed_if true n is = cc
missed_if false n is = refl

-- the line up to the first line feed
pub line_to_feed : (text : List ℕ) (end : ℕ) → position is_feed text ≡ Some end
    → lines_of text ≡ take end text ∷ lines_of (take (length text - (end + 1)) (drop (end + 1) text))
line_to_feed text end is =
    let found = found_if (nat_lt (position_or_len is_feed text) (length text)) (position_or_len is_feed text) end is in
    let same : feed_or_len text ≡ end = feed_is text ∙ found.1 in
    let test = found.0 in
    let before : position_or_len is_feed text < length text = grind (arith, nat_tests, test) in
    let within : feed_or_len text < length text = rw (feed_is text) before in
    let next : suc end ≡ end + 1 = omega arith in
    first_line text within
    ∙ ap (λ (k : ℕ). take k text ∷ lines_of (drop (suc k) text)) same
    ∙ ap (λ (k : ℕ). take end text ∷ lines_of (drop k text)) next
    ∙ ap (λ (after : List ℕ). take end text ∷ lines_of after) (sym (take_all (length text - (end + 1)) (drop (end + 1) text) (omega (arith, length-drop (end + 1) text))))

-- a text without a line feed is one line
pub line_alone : (text : List ℕ) → position is_feed text ≡ None → lines_of text ≡ text ∷ []
line_alone text is =
    let none = missed_if (nat_lt (position_or_len is_feed text) (length text)) (position_or_len is_feed text) is in
    let all : length text ≤ position_or_len is_feed text = grind (arith, nat_tests, none) in
    one_line text (rw (feed_is text) all)
