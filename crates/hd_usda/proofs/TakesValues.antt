-- Values and metadata of which nothing is kept take tokens.
use Rattle.std.proofs.Common.{◌≡◌, ℕ, zero, suc, ◌<◌, List, Ok, Bool, true, false, ◌||◌, ◌&&◌, codes, bytes_eq, refl}
use Rattle.hd_lexer.specs.declared.lexer.Kind.TheVariants.{Word, Number, Text, Asset, PathText, OpenRound, CloseRound, OpenSquare, CloseSquare, OpenCurly, CloseCurly, Equals, Comma, Colon, Semicolon}
use Rattle.hd_lexer.specs.Lexing.{Tokens}
use Rattle.hd_usda.specs.reading.Cursor.{Past, is, rest, count, text, line_of, take}
use Rattle.hd_usda.specs.reading.Loops.{chain}
use Rattle.hd_usda.specs.grammar.Value.{type_name, next_word, more_words, key, next_of_tuple, next_of_list, entry_of_dict, tuple, list, dict, plain_value, value}
use Rattle.hd_usda.specs.grammar.Metadata.{list_ops, left_out_keys, is_off, after_key, keyed, entry, metadata}
use Rattle.hd_tokens.specs.Names.{is_any}
use Rattle.hd_usda.proofs.Heading.{one_fewer}
use Rattle.hd_usda.proofs.Takes.{Below, After, PastTakes, Takes, PastKeeps, chained, chosen, past_keeps, keeps, rest_keeps, take_takes, take_keeps, past_one_keeps, past_form_keeps, chain_keeps}

type_name_takes : PastTakes type_name
unfolding type_name
type_name_takes ts =
    chained (Below (count ts)) (Below (count ts)) _ (take Word ts) (take_takes Word refl ts) (λ u low.
    chosen (Below (count ts)) _ _ (is OpenSquare u) (λ _. take_keeps CloseSquare refl (count ts) (rest u) (rest_keeps (count ts) u low)) (λ _. low))

pub next_word_takes : (s : Unit {0}) → Takes (next_word s)
unfolding next_word
next_word_takes s ts = chained (Below (count ts)) (After (count ts)) _ (take Word ts) (take_takes Word refl ts) (λ u low. low)

more_words_keep : PastKeeps more_words
unfolding more_words
more_words_keep n ts low =
    chained (After n) (Below n) _ (chain Colon next_word tt ts) (chain_keeps Colon next_word (λ s. keeps (next_word s) (next_word_takes s)) tt n ts low) (λ r low1. low1)

key_takes : PastTakes key
unfolding key
key_takes ts =
    chosen (Below (count ts)) _ _ (is Text ts) (λ found. one_fewer Text ts refl found) (λ _.
    chained (Below (count ts)) (Below (count ts)) _ (take Word ts) (take_takes Word refl ts) (λ u low. more_words_keep (count ts) u low))

pub next_of_tuple_takes : (inner : Past) → PastTakes inner → PastTakes (next_of_tuple inner)
unfolding next_of_tuple
next_of_tuple_takes inner takes ts =
    chained (Below (count ts)) (Below (count ts)) _ (take Comma ts) (take_takes Comma refl ts) (λ u low. past_keeps inner takes (count ts) u low)

pub next_of_list_takes : (inner : Past) → PastTakes inner → PastTakes (next_of_list inner)
unfolding next_of_list
next_of_list_takes inner takes ts =
    chained (Below (count ts)) (Below (count ts)) _ (take Comma ts) (take_takes Comma refl ts) (λ u low.
    chosen (Below (count ts)) _ _ (is CloseSquare u) (λ _. low) (λ _. past_keeps inner takes (count ts) u low))

pub entry_of_dict_takes : (inner : Past) → PastTakes inner → PastTakes (entry_of_dict inner)
unfolding entry_of_dict
entry_of_dict_takes inner takes ts =
    chained (Below (count ts)) (Below (count ts)) _ (type_name ts) (type_name_takes ts) (λ u low.
    chained (Below (count ts)) (Below (count ts)) _ (key u) (past_keeps key key_takes (count ts) u low) (λ v low1.
    chained (Below (count ts)) (Below (count ts)) _ (take Equals v) (take_keeps Equals refl (count ts) v low1) (λ w low2.
    chained (Below (count ts)) (Below (count ts)) _ (inner w) (past_keeps inner takes (count ts) w low2) (λ x low3.
    past_one_keeps Semicolon (count ts) x low3))))

tuple_keeps : (inner : Past) → PastTakes inner → PastKeeps (tuple inner)
unfolding tuple
tuple_keeps inner takes n ts low =
    chained (Below n) (Below n) _ (inner ts) (past_keeps inner takes n ts low) (λ u low1.
    past_form_keeps CloseRound (next_of_tuple inner) (past_keeps (next_of_tuple inner) (next_of_tuple_takes inner takes)) n u low1)

list_keeps : (inner : Past) → PastTakes inner → PastKeeps (list inner)
unfolding list
list_keeps inner takes n ts low =
    chosen (Below n) _ _ (is CloseSquare ts) (λ _. rest_keeps n ts low) (λ _.
    chained (Below n) (Below n) _ (inner ts) (past_keeps inner takes n ts low) (λ u low1.
    past_form_keeps CloseSquare (next_of_list inner) (past_keeps (next_of_list inner) (next_of_list_takes inner takes)) n u low1))

dict_keeps : (inner : Past) → PastTakes inner → PastKeeps (dict inner)
unfolding dict
dict_keeps inner takes = past_form_keeps CloseCurly (entry_of_dict inner) (past_keeps (entry_of_dict inner) (entry_of_dict_takes inner takes))

-- a token of one of some kinds is before others
one_of_five : (ts : Tokens) (a b c d e : Bool) → (a ≡ true → count (rest ts) < count ts) → (b ≡ true → count (rest ts) < count ts) → (c ≡ true → count (rest ts) < count ts) → (d ≡ true → count (rest ts) < count ts) → (e ≡ true → count (rest ts) < count ts) → (a || b || c || d || e) ≡ true → count (rest ts) < count ts
one_of_five ts true b c d e f g h i j some = f refl
one_of_five ts false true c d e f g h i j some = g refl
one_of_five ts false false true d e f g h i j some = h refl
one_of_five ts false false false true e f g h i j some = i refl
one_of_five ts false false false false true f g h i j some = j refl
one_of_five ts false false false false false f g h i j some = absurd (cc)

plain_value_takes : PastTakes plain_value
unfolding plain_value
plain_value_takes ts =
    chosen (Below (count ts)) _ _ (is Word ts || is Number ts || is Text ts || is Asset ts || is PathText ts)
    (one_of_five ts (is Word ts) (is Number ts) (is Text ts) (is Asset ts) (is PathText ts) (one_fewer Word ts refl) (one_fewer Number ts refl) (one_fewer Text ts refl) (one_fewer Asset ts refl) (one_fewer PathText ts refl))
    (λ _. tt)

pub value_takes : (level : ℕ) → PastTakes (value level)
unfolding value
value_takes zero ts = chosen (Below (count ts)) _ _ (is OpenRound ts || is OpenSquare ts || is OpenCurly ts) (λ _. tt) (λ _. plain_value_takes ts)
value_takes (suc level) ts =
    chosen (Below (count ts)) _ _ (is OpenRound ts) (λ found. tuple_keeps (value level) (value_takes level) (count ts) (rest ts) (one_fewer OpenRound ts refl found)) (λ _.
    chosen (Below (count ts)) _ _ (is OpenSquare ts) (λ found. list_keeps (value level) (value_takes level) (count ts) (rest ts) (one_fewer OpenSquare ts refl found)) (λ _.
    chosen (Below (count ts)) _ _ (is OpenCurly ts) (λ found. dict_keeps (value level) (value_takes level) (count ts) (rest ts) (one_fewer OpenCurly ts refl found)) (λ _.
    plain_value_takes ts)))

pub value_keeps : (level : ℕ) → PastKeeps (value level)
value_keeps level = past_keeps (value level) (value_takes level)

after_key_takes : (key : List ℕ) (line : ℕ) → PastTakes (after_key key line)
unfolding after_key
after_key_takes key line ts =
    chosen (Below (count ts)) _ _ (is_any left_out_keys key) (λ _. tt) (λ _.
    chained (Below (count ts)) (Below (count ts)) _ (take Equals ts) (take_takes Equals refl ts) (λ u low.
    chosen (Below (count ts)) _ _ (bytes_eq key (codes "active") && is_off u) (λ _. tt) (λ _. value_keeps 63 (count ts) u low)))

keyed_takes : PastTakes keyed
unfolding keyed
keyed_takes ts =
    chained (Below (count ts)) (Below (count ts)) _ (take Word ts) (take_takes Word refl ts) (λ u low.
    chosen (Below (count ts)) _ _ (is_any list_ops (text ts) && is Word u)
    (λ _. past_keeps (after_key (text u) (line_of u)) (after_key_takes (text u) (line_of u)) (count ts) (rest u) (rest_keeps (count ts) u low))
    (λ _. past_keeps (after_key (text ts) (line_of ts)) (after_key_takes (text ts) (line_of ts)) (count ts) u low))

pub entry_takes : PastTakes entry
unfolding entry
entry_takes ts =
    chained (Below (count ts)) (Below (count ts)) _ _ (chosen (Below (count ts)) (Ok (rest ts)) (keyed ts) (is Text ts) (λ found. one_fewer Text ts refl found) (λ _. keyed_takes ts)) (λ u low.
    past_one_keeps Semicolon (count ts) u low)

pub metadata_keeps : PastKeeps metadata
unfolding metadata
metadata_keeps n ts low =
    chosen (Below n) _ _ (is OpenRound ts) (λ _. past_form_keeps CloseRound entry (past_keeps entry entry_takes) n (rest ts) (rest_keeps n ts low)) (λ _. low)
