-- What holds of tokens, and goes on to hold after each of them, holds of those that the value of a used property leaves.
use Rattle.std.proofs.Common.{ℕ, Bool, true, false, ◌&&◌, nat_le, if◌then◌else◌, List, [], ◌∷◌, ◌++◌, length, Err, codes}
use Rattle.hd_lexer.specs.declared.lexer.Kind.{Kind}
use Rattle.hd_lexer.specs.declared.lexer.Kind.TheVariants.{Number, Text, PathText, OpenRound, CloseRound, OpenSquare, CloseSquare, Comma}
use Rattle.hd_layer.specs.declared.fault.LayerWhy.TheVariants.{LeftOut}
use Rattle.hd_layer.specs.declared.limits.Which.TheVariants.{Elements}
use Rattle.hd_usda.specs.declared.used.numbers.NumberRule.{NumberRule}
use Rattle.hd_usda.specs.declared.used.numbers.NumberRule.TheVariants.{Any, Turn, Zero, One}
use Rattle.hd_tokens.specs.declared.properties.AttributeKind.{AttributeKind}
use Rattle.hd_tokens.specs.declared.properties.AttributeKind.TheVariants.{Points, Numbers, Colors, ByteColors, OpOrder, Visibility, Purpose, Vector, Angle, Angles, Transform, ByteColor}
use Rattle.hd_layer.specs.declared.spec.RawValue.{RawValue}
use Rattle.hd_layer.specs.declared.spec.RawValue.TheVariants as raw
use Rattle.hd_layer.specs.Limits.{limit_of}
use Rattle.hd_lexer.specs.Lexing.{Tokens}
use Rattle.hd_usda.specs.reading.Cursor.{Form, is, is_word, rest, text, line_of, fault_at, take}
use Rattle.hd_tokens.specs.Names.{is_any}
use Rattle.hd_lexer.specs.Decimals.{parts_of}
use Rattle.hd_tokens.specs.Properties.{visibilities, purposes, is_op_entry}
use Rattle.hd_usda.specs.used.Numbers.{is_non_finite_text, wrong_token_fault, need, checked_number, number, triple, row}
use Rattle.hd_usda.specs.used.Elements.{Reads, one_more, next_element, list_of}
use Rattle.hd_usda.specs.used.Targets.{path_in, target, one_target, in_list, targets}
use Rattle.hd_usda.specs.used.Values.{numbers, triples, op_entry, op_entries, one_of, rows, single, whole, value_of, used_value}
use Rattle.hd_usda.proofs.Answering.{Leaves, on_then, on_either, on_ok, on_fault, Whatever, on_any}
use Rattle.hd_usda.proofs.Leaving.{After, take_leaves, all_leaves}

module _ (P : Tokens → Type 0) (goes : (ts : Tokens) → P ts → P (rest ts)) where
  need_leaves : (attribute : Bool) (k : Kind) (ts : Tokens) → P ts → Leaves P (need attribute k ts)
  unfolding need
  need_leaves attribute k ts h = on_either P (is k ts) _ _ (on_ok P (rest ts) (goes ts h)) (on_fault P (fault_at ts (wrong_token_fault attribute ts)))

  number_leaves : (demand : NumberRule) (ts : Tokens) → P ts → Leaves (After P) (number demand ts)
  unfolding number
  number_leaves demand ts h = on_then P (After P) (need true Number ts) _ (need_leaves true Number ts h)
      (λ u g. on_then Whatever (After P) (if is_non_finite_text (text ts) then Err (fault_at ts LeftOut) else checked_number demand (line_of ts) (parts_of (text ts))) _ (on_any (if is_non_finite_text (text ts) then Err (fault_at ts LeftOut) else checked_number demand (line_of ts) (parts_of (text ts)))) (λ n _. on_ok (After P) (n, u) g))

  triple_leaves : (demand : NumberRule) (ts : Tokens) → P ts → Leaves (After P) (triple demand ts)
  unfolding triple
  triple_leaves demand ts h =
      on_then P (After P) (need true OpenRound ts) _ (need_leaves true OpenRound ts h) (λ u a.
      on_then (After P) (After P) (number demand u) _ (number_leaves demand u a) (λ x b.
      on_then P (After P) (need true Comma x.1) _ (need_leaves true Comma x.1 b) (λ v c.
      on_then (After P) (After P) (number demand v) _ (number_leaves demand v c) (λ y d.
      on_then P (After P) (need true Comma y.1) _ (need_leaves true Comma y.1 d) (λ w e.
      on_then (After P) (After P) (number demand w) _ (number_leaves demand w e) (λ z f.
      on_then P (After P) (need true CloseRound z.1) _ (need_leaves true CloseRound z.1 f) (λ end g. on_ok (After P) (_, end) g)))))))

  row_leaves : (last : NumberRule) (ts : Tokens) → P ts → Leaves (After P) (row last ts)
  unfolding row
  row_leaves last ts h =
      on_then P (After P) (need true OpenRound ts) _ (need_leaves true OpenRound ts h) (λ u a.
      on_then (After P) (After P) (number Any u) _ (number_leaves Any u a) (λ x b.
      on_then P (After P) (need true Comma x.1) _ (need_leaves true Comma x.1 b) (λ v c.
      on_then (After P) (After P) (number Any v) _ (number_leaves Any v c) (λ y d.
      on_then P (After P) (need true Comma y.1) _ (need_leaves true Comma y.1 d) (λ w e.
      on_then (After P) (After P) (number Any w) _ (number_leaves Any w e) (λ z f.
      on_then P (After P) (need true Comma z.1) _ (need_leaves true Comma z.1 f) (λ k g.
      on_then (After P) (After P) (number last k) _ (number_leaves last k g) (λ l i.
      on_then P (After P) (need true CloseRound l.1) _ (need_leaves true CloseRound l.1 i) (λ end j. on_ok (After P) (_, end) j)))))))))

  rows_leaves : (ts : Tokens) → P ts → Leaves (After P) (rows ts)
  unfolding rows
  rows_leaves ts h =
      on_then P (After P) (need true OpenRound ts) _ (need_leaves true OpenRound ts h) (λ u a.
      on_then (After P) (After P) (row Zero u) _ (row_leaves Zero u a) (λ x b.
      on_then P (After P) (need true Comma x.1) _ (need_leaves true Comma x.1 b) (λ v c.
      on_then (After P) (After P) (row Zero v) _ (row_leaves Zero v c) (λ y d.
      on_then P (After P) (need true Comma y.1) _ (need_leaves true Comma y.1 d) (λ w e.
      on_then (After P) (After P) (row Zero w) _ (row_leaves Zero w e) (λ z f.
      on_then P (After P) (need true Comma z.1) _ (need_leaves true Comma z.1 f) (λ k g.
      on_then (After P) (After P) (row One k) _ (row_leaves One k g) (λ l i.
      on_then P (After P) (need true CloseRound l.1) _ (need_leaves true CloseRound l.1 i) (λ end j. on_ok (After P) (_, end) j)))))))))

  module _ {A : Type 0} (how : Reads A) (each : (first : Bool) (ts : Tokens) → P ts → Leaves (After P) (how.form first ts)) where
    one_more_leaves : (found : List A) (ts : Tokens) → P ts → Leaves (After P) (one_more how found ts)
    unfolding one_more
    one_more_leaves found ts h = on_either (After P) (how.begins ts && nat_le (limit_of Elements) (length found)) _ _ (on_fault (After P) (fault_at ts (how.beyond (text ts))))
        (on_then (After P) (After P) (how.form false ts) _ (each false ts h) (λ x g. on_ok (After P) (found ++ x.0 ∷ [], x.1) g))

    next_element_leaves : (found : List A) (ts : Tokens) → P ts → Leaves (After P) (next_element how found ts)
    unfolding next_element
    next_element_leaves found ts h = on_then P (After P) (need how.attribute Comma ts) _ (need_leaves how.attribute Comma ts h)
        (λ u g. on_either (After P) (is CloseSquare u) _ _ (on_ok (After P) (found, u) g) (one_more_leaves found u g))

    list_of_leaves : (ts : Tokens) → P ts → Leaves (After P) (list_of how ts)
    unfolding list_of
    list_of_leaves ts h = on_then P (After P) (need how.attribute OpenSquare ts) _ (need_leaves how.attribute OpenSquare ts h)
        (λ u g. on_either (After P) (is CloseSquare u) _ _ (on_ok (After P) ([], rest u) (goes u g))
        (on_then (After P) (After P) (how.form true u) _ (each true u g) (λ x f. all_leaves P goes CloseSquare (next_element how) next_element_leaves (x.0 ∷ []) x.1 f)))

  target_leaves : (ts : Tokens) → P ts → Leaves (After P) (target ts)
  unfolding target
  target_leaves ts h = on_then P (After P) (take PathText ts) _ (take_leaves P goes PathText ts h)
      (λ u g. on_then Whatever (After P) (path_in (line_of ts) (text ts)) _ (on_any (path_in (line_of ts) (text ts))) (λ path _. on_ok (After P) (path, u) g))

  pub targets_leaves : (ts : Tokens) → P ts → Leaves (After P) (targets ts)
  unfolding targets one_target
  targets_leaves ts h = on_either (After P) (is_word (codes "None") ts) _ _ (on_ok (After P) ([], rest ts) (goes ts h))
      (on_either (After P) (is PathText ts) _ _ (on_then (After P) (After P) (target ts) _ (target_leaves ts h) (λ path g. on_ok (After P) (path.0 ∷ [], path.1) g))
      (list_of_leaves in_list (λ first. target_leaves) ts h))

  op_entry_leaves : (first : Bool) (ts : Tokens) → P ts → Leaves (After P) (op_entry first ts)
  unfolding op_entry
  op_entry_leaves first ts h = on_then P (After P) (need true Text ts) _ (need_leaves true Text ts h)
      (λ u g. on_either (After P) (is_op_entry first (text ts)) _ _ (on_ok (After P) (text ts, u) g) (on_fault (After P) (fault_at ts LeftOut)))

  one_of_leaves : (words : List (List ℕ)) (ts : Tokens) → P ts → Leaves (After P) (one_of words ts)
  unfolding one_of
  one_of_leaves words ts h = on_then P (After P) (need true Text ts) _ (need_leaves true Text ts h)
      (λ u g. on_either (After P) (is_any words (text ts)) _ _ (on_ok (After P) (text ts, u) g) (on_fault (After P) (fault_at ts LeftOut)))

  single_leaves : {A : Type 0} (make : List A → RawValue) (form : Form A) → ((ts : Tokens) → P ts → Leaves (After P) (form ts)) → (ts : Tokens) → P ts → Leaves (After P) (single make form ts)
  single_leaves make form each ts h = on_then (After P) (After P) (form ts) _ (each ts h) (λ x g. on_ok (After P) (make (x.0 ∷ []), x.1) g)

  whole_leaves : {A : Type 0} (make : A → RawValue) (form : Form A) → ((ts : Tokens) → P ts → Leaves (After P) (form ts)) → (ts : Tokens) → P ts → Leaves (After P) (whole make form ts)
  whole_leaves make form each ts h = on_then (After P) (After P) (form ts) _ (each ts h) (λ x g. on_ok (After P) (make x.0, x.1) g)

  value_of_leaves : (role : AttributeKind) (ts : Tokens) → P ts → Leaves (After P) (value_of role ts)
  value_of_leaves Points = whole_leaves raw.Triples (list_of triples) (list_of_leaves triples (λ first. triple_leaves Any))
  value_of_leaves Numbers = whole_leaves raw.Numbers (list_of numbers) (list_of_leaves numbers (λ first. number_leaves Any))
  value_of_leaves Colors = whole_leaves raw.Triples (list_of triples) (list_of_leaves triples (λ first. triple_leaves Any))
  value_of_leaves ByteColors = whole_leaves raw.Triples (list_of triples) (list_of_leaves triples (λ first. triple_leaves Any))
  value_of_leaves OpOrder = whole_leaves raw.Words (list_of op_entries) (list_of_leaves op_entries op_entry_leaves)
  value_of_leaves Visibility = single_leaves raw.Words (one_of visibilities) (one_of_leaves visibilities)
  value_of_leaves Purpose = single_leaves raw.Words (one_of purposes) (one_of_leaves purposes)
  value_of_leaves Vector = single_leaves raw.Triples (triple Any) (triple_leaves Any)
  value_of_leaves Angle = single_leaves raw.Numbers (number Turn) (number_leaves Turn)
  value_of_leaves Angles = single_leaves raw.Triples (triple Turn) (triple_leaves Turn)
  value_of_leaves Transform = whole_leaves raw.Matrix rows rows_leaves
  value_of_leaves ByteColor = single_leaves raw.Triples (triple Any) (triple_leaves Any)

  pub used_value_leaves : (role : AttributeKind) (ts : Tokens) → P ts → Leaves (After P) (used_value role ts)
  unfolding used_value
  used_value_leaves role ts h = on_either (After P) (is_word (codes "None") ts) _ _ (on_fault (After P) (fault_at ts LeftOut)) (value_of_leaves role ts h)
