-- What holds of tokens, and goes on to hold after each of them, holds of those that a form leaves.
use Rattle.std.proofs.Common.{ℕ, zero, suc, ◌&&◌, ◌||◌, if◌then◌else◌, Ok, Err}
use Rattle.hd_lexer.specs.declared.lexer.Kind.{Kind}
use Rattle.hd_lexer.specs.declared.lexer.Kind.TheVariants.{Word, Number, Text, Asset, PathText, OpenRound, CloseRound, OpenSquare, CloseSquare, OpenCurly, CloseCurly, Equals, Comma, Colon, Semicolon}
use Rattle.hd_layer.specs.declared.fault.LayerWhy.TheVariants.{Syntax, LeftOut, Limit}
use Rattle.hd_layer.specs.declared.limits.Which.TheVariants.{Nesting}
use Rattle.hd_lexer.specs.Lexing.{Tokens}
use Rattle.hd_usda.specs.reading.Cursor.{◌>>=◌, Past, Form, is, rest, count, text, line_of, fault_in, fault_at, take, past_one}
use Rattle.hd_usda.specs.reading.Loops.{past, past_by, all, chain, chain_by}
use Rattle.hd_usda.specs.grammar.Value.{type_name, next_word, more_words, key, next_of_tuple, next_of_list, entry_of_dict, tuple, list, dict, plain_value, value}
use Rattle.hd_usda.specs.grammar.Metadata.{list_ops, left_out_keys, is_off, after_key, keyed, entry, metadata}
use Rattle.hd_tokens.specs.Names.{is_any}
use Rattle.hd_usda.proofs.Answering.{Leaves, on_then, on_either, on_ok, on_fault, on_choice, on_all}

-- tokens after a value
abbrev pub After : (Tokens → Type 0) → {A : Type 0} → A × Tokens → Type 0
After P q = P q.1

module _ (P : Tokens → Type 0) (goes : (ts : Tokens) → P ts → P (rest ts)) where
  pub take_leaves : (k : Kind) (ts : Tokens) → P ts → Leaves P (take k ts)
  unfolding take
  take_leaves k ts h = on_either P (is k ts) (Ok (rest ts)) (Err (fault_at ts Syntax)) (on_ok P (rest ts) (goes ts h)) (on_fault P (fault_at ts Syntax))

  pub past_one_leaves : (k : Kind) (ts : Tokens) → P ts → P (past_one k ts)
  unfolding past_one
  past_one_leaves k ts h = on_choice P (is k ts) (rest ts) ts (goes ts h) h

  pub past_leaves : (close : Kind) (form : Past) → ((ts : Tokens) → P ts → Leaves P (form ts)) → (ts : Tokens) → P ts → Leaves P (past close form ts)
  unfolding past past_by
  past_leaves close form each ts h = rounds (suc (count ts)) ts h
    where
      rounds : (n : ℕ) (ts : Tokens) → P ts → Leaves P (past_by close form n ts)
      rounds zero ts h = on_fault P (fault_at ts Syntax)
      rounds (suc n) ts h = on_either P (is close ts) (Ok (rest ts)) (form ts >>= past_by close form n) (on_ok P (rest ts) (goes ts h)) (on_then P P (form ts) (past_by close form n) (each ts h) (rounds n))

  pub all_leaves : {S : Type 0} (close : Kind) (form : S → Form S) → ((s : S) (ts : Tokens) → P ts → Leaves (After P) (form s ts)) → (s : S) (ts : Tokens) → P ts → Leaves (After P) (all close form s ts)
  all_leaves close form each s ts h = on_all (After P) close form (λ s ts h. goes ts h) each s ts h

  pub chain_leaves : {S : Type 0} (separator : Kind) (form : S → Form S) → ((s : S) (ts : Tokens) → P ts → Leaves (After P) (form s ts)) → (s : S) (ts : Tokens) → P ts → Leaves (After P) (chain separator form s ts)
  unfolding chain chain_by
  chain_leaves {S} separator form each s ts h = rounds (suc (count ts)) s ts h
    where
      rounds : (n : ℕ) (s : S) (ts : Tokens) → P ts → Leaves (After P) (chain_by separator form n s ts)
      rounds zero s ts h = on_fault (After P) (fault_at ts Syntax)
      rounds (suc n) s ts h = on_either (After P) (is separator ts) (form s (rest ts) >>= λ r. chain_by separator form n r.0 r.1) (Ok (s, ts))
          (on_then (After P) (After P) (form s (rest ts)) (λ r. chain_by separator form n r.0 r.1) (each s (rest ts) (goes ts h)) (λ r g. rounds n r.0 r.1 g)) (on_ok (After P) (s, ts) h)

  pub type_name_leaves : (ts : Tokens) → P ts → Leaves P (type_name ts)
  unfolding type_name
  type_name_leaves ts h = on_then P P (take Word ts) _ (take_leaves Word ts h) (λ u g. on_either P (is OpenSquare u) _ _ (take_leaves CloseSquare (rest u) (goes u g)) (on_ok P u g))

  next_word_leaves : (s : Unit {0}) (ts : Tokens) → P ts → Leaves (After P) (next_word s ts)
  unfolding next_word
  next_word_leaves s ts h = on_then P (After P) (take Word ts) _ (take_leaves Word ts h) (λ u g. on_ok (After P) (s, u) g)

  more_words_leaves : (ts : Tokens) → P ts → Leaves P (more_words ts)
  unfolding more_words
  more_words_leaves ts h = on_then (After P) P (chain Colon next_word tt ts) _ (chain_leaves Colon next_word next_word_leaves tt ts h) (λ r g. on_ok P r.1 g)

  key_leaves : (ts : Tokens) → P ts → Leaves P (key ts)
  unfolding key
  key_leaves ts h = on_either P (is Text ts) _ _ (on_ok P (rest ts) (goes ts h)) (on_then P P (take Word ts) _ (take_leaves Word ts h) more_words_leaves)

  plain_value_leaves : (ts : Tokens) → P ts → Leaves P (plain_value ts)
  unfolding plain_value
  plain_value_leaves ts h = on_either P (is Word ts || is Number ts || is Text ts || is Asset ts || is PathText ts) _ _ (on_ok P (rest ts) (goes ts h)) (on_fault P (fault_at ts Syntax))

  module _ (inner : Past) (each : (ts : Tokens) → P ts → Leaves P (inner ts)) where
    next_of_tuple_leaves : (ts : Tokens) → P ts → Leaves P (next_of_tuple inner ts)
    unfolding next_of_tuple
    next_of_tuple_leaves ts h = on_then P P (take Comma ts) _ (take_leaves Comma ts h) each

    next_of_list_leaves : (ts : Tokens) → P ts → Leaves P (next_of_list inner ts)
    unfolding next_of_list
    next_of_list_leaves ts h = on_then P P (take Comma ts) _ (take_leaves Comma ts h) (λ u g. on_either P (is CloseSquare u) _ _ (on_ok P u g) (each u g))

    entry_of_dict_leaves : (ts : Tokens) → P ts → Leaves P (entry_of_dict inner ts)
    unfolding entry_of_dict
    entry_of_dict_leaves ts h = on_then P P (type_name ts) _ (type_name_leaves ts h) (λ u a. on_then P P (key u) _ (key_leaves u a) (λ v b. on_then P P (take Equals v) _ (take_leaves Equals v b)
        (λ w c. on_then P P (inner w) _ (each w c) (λ x d. on_ok P (past_one Semicolon x) (past_one_leaves Semicolon x d)))))

    tuple_leaves : (ts : Tokens) → P ts → Leaves P (tuple inner ts)
    unfolding tuple
    tuple_leaves ts h = on_then P P (inner ts) _ (each ts h) (past_leaves CloseRound (next_of_tuple inner) next_of_tuple_leaves)

    list_leaves : (ts : Tokens) → P ts → Leaves P (list inner ts)
    unfolding list
    list_leaves ts h = on_either P (is CloseSquare ts) _ _ (on_ok P (rest ts) (goes ts h)) (on_then P P (inner ts) _ (each ts h) (past_leaves CloseSquare (next_of_list inner) next_of_list_leaves))

    dict_leaves : (ts : Tokens) → P ts → Leaves P (dict inner ts)
    unfolding dict
    dict_leaves ts h = past_leaves CloseCurly (entry_of_dict inner) entry_of_dict_leaves ts h

  pub value_leaves : (level : ℕ) (ts : Tokens) → P ts → Leaves P (value level ts)
  unfolding value
  value_leaves zero ts h = on_either P (is OpenRound ts || is OpenSquare ts || is OpenCurly ts) _ _ (on_fault P (fault_at ts (Limit Nesting))) (plain_value_leaves ts h)
  value_leaves (suc level) ts h = on_either P (is OpenRound ts) _ _ (tuple_leaves (value level) (value_leaves level) (rest ts) (goes ts h))
      (on_either P (is OpenSquare ts) _ _ (list_leaves (value level) (value_leaves level) (rest ts) (goes ts h))
      (on_either P (is OpenCurly ts) _ _ (dict_leaves (value level) (value_leaves level) (rest ts) (goes ts h)) (plain_value_leaves ts h)))

  after_key_leaves : (key : _) (line : ℕ) (ts : Tokens) → P ts → Leaves P (after_key key line ts)
  unfolding after_key
  after_key_leaves key line ts h = on_either P (is_any left_out_keys key) _ _ (on_fault P (fault_in line LeftOut)) (on_then P P (take Equals ts) _ (take_leaves Equals ts h)
      (λ u g. on_either P (_ && is_off u) _ _ (on_fault P (fault_at u LeftOut)) (value_leaves 63 u g)))

  keyed_leaves : (ts : Tokens) → P ts → Leaves P (keyed ts)
  unfolding keyed
  keyed_leaves ts h = on_then P P (take Word ts) _ (take_leaves Word ts h)
      (λ u g. on_either P (is_any list_ops (text ts) && is Word u) _ _ (after_key_leaves (text u) (line_of u) (rest u) (goes u g)) (after_key_leaves (text ts) (line_of ts) u g))

  entry_leaves : (ts : Tokens) → P ts → Leaves P (entry ts)
  unfolding entry
  entry_leaves ts h = on_then P P (if is Text ts then Ok (rest ts) else keyed ts) _ (on_either P (is Text ts) (Ok (rest ts)) (keyed ts) (on_ok P (rest ts) (goes ts h)) (keyed_leaves ts h))
      (λ u g. on_ok P (past_one Semicolon u) (past_one_leaves Semicolon u g))

  pub metadata_leaves : (ts : Tokens) → P ts → Leaves P (metadata ts)
  unfolding metadata
  metadata_leaves ts h = on_either P (is OpenRound ts) _ _ (past_leaves CloseRound entry entry_leaves (rest ts) (goes ts h)) (on_ok P ts h)
