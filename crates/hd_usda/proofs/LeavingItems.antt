-- What holds of tokens, and goes on to hold after each of them, holds of those that a property or a prim leaves.
use Rattle.std.proofs.Common.{ℕ, zero, suc, Bool, true, false, ◌&&◌, ◌||◌, not, ◌==◌, nat_lt, if◌then◌else◌, List, [], ◌∷◌, ◌++◌, length, Option, Some, None, codes}
use Rattle.hd_lexer.specs.declared.lexer.Kind.TheVariants.{Word, Number, OpenSquare, CloseSquare, OpenCurly, CloseCurly, Equals, Comma, Colon, Semicolon, Point}
use Rattle.hd_layer.specs.declared.fault.LayerWhy.TheVariants.{Syntax, LeftOut, Limit}
use Rattle.hd_layer.specs.declared.limits.Which.TheVariants.{Depth, Name}
use Rattle.hd_tokens.specs.declared.properties.AttributeKind.{AttributeKind}
use Rattle.hd_usda.specs.declared.grammar.attribute.Tail.{Tail}
use Rattle.hd_usda.specs.declared.grammar.attribute.Tail.TheVariants.{Plain, Connect, Samples, Other}
use Rattle.hd_layer.specs.Limits.{limit_of}
use Rattle.hd_lexer.specs.Lexing.{Tokens}
use Rattle.hd_usda.specs.reading.Cursor.{is, is_word, rest, text, line_of, fault_at, take, past_one}
use Rattle.hd_usda.specs.reading.Loops.{all}
use Rattle.hd_usda.specs.grammar.Metadata.{list_ops, metadata}
use Rattle.hd_tokens.specs.Names.{is_any}
use Rattle.hd_usda.specs.used.Targets.{targets}
use Rattle.hd_usda.specs.used.Values.{used_value}
use Rattle.hd_usda.specs.grammar.Value.{some_value}
use Rattle.hd_usda.specs.grammar.NameSet.{NameSet, new_name}
use Rattle.hd_usda.specs.grammar.Header.{reserved_words, list_op, past_word, past_modifiers, own_type, PropertyName, next_word, pname}
use Rattle.hd_usda.specs.grammar.Kept.{PrimProperties}
use Rattle.hd_usda.specs.grammar.Attribute.{point_tail, tail_at, AttributeHeader, new_attribute, is_left_out, sample, next_sample, samples, samples_value, plain_value, tail_value, own_role, after_pname, attribute}
use Rattle.hd_usda.specs.grammar.Property.{relation_value, is_misnamed_relation, relation, relation_or_attribute, property}
use Rattle.hd_tokens.specs.Properties.{is_target_name}
use Rattle.hd_usda.specs.declared.grammar.rule.PropertyRule.{PropertyRule}
use Rattle.hd_usda.specs.grammar.Rule.{is_for_use, needs_value, rule_of, before_value}
use Rattle.hd_usda.specs.grammar.Prims.{PrimScope, is_prim, prim_type, is_name, next_count, prim_name, prim_header, PrimForm, property_item, item, body, prim, new_scope}
use Rattle.hd_path.specs.Paths.{Path}
use Rattle.hd_usda.proofs.Answering.{Leaves, on_then, on_either, on_ok, on_fault, on_choice, Whatever, on_any}
use Rattle.hd_usda.proofs.Leaving.{After, take_leaves, past_one_leaves, past_leaves, all_leaves, chain_leaves, value_leaves, metadata_leaves}
use Rattle.hd_usda.proofs.LeavingValues.{targets_leaves, used_value_leaves}

module _ (P : Tokens → Type 0) (goes : (ts : Tokens) → P ts → P (rest ts)) where
  list_op_leaves : (ts : Tokens) → P ts → Leaves (After P) (list_op ts)
  unfolding list_op
  list_op_leaves ts h = on_either (After P) (is Word ts && is_any list_ops (text ts)) _ _
      (on_either (After P) (is_word (codes "reorder") ts && (is_word (codes "nameChildren") (rest ts) || is_word (codes "properties") (rest ts))) _ _ (on_fault (After P) (fault_at ts LeftOut)) (on_ok (After P) (true, rest ts) (goes ts h)))
      (on_ok (After P) (false, ts) h)

  past_word_leaves : (word : List ℕ) (ts : Tokens) → P ts → P (past_word word ts)
  unfolding past_word
  past_word_leaves word ts h = on_choice P (is_word word ts) (rest ts) ts (goes ts h) h

  past_modifiers_leaves : (ts : Tokens) → P ts → P (past_modifiers ts)
  unfolding past_modifiers
  past_modifiers_leaves ts h =
      let u : Tokens = past_word (codes "custom") ts in
      let g : P u = past_word_leaves (codes "custom") ts h in
      on_choice P (is_word (codes "uniform") u) (rest u) (past_word (codes "varying") u) (goes u g) (past_word_leaves (codes "varying") u g)

  own_type_leaves : (ts : Tokens) → P ts → Leaves (After P) (own_type ts)
  unfolding own_type
  own_type_leaves ts h = on_either (After P) (is Word ts && is_any reserved_words (text ts)) _ _ (on_fault (After P) (fault_at ts Syntax))
      (on_then P (After P) (take Word ts) _ (take_leaves P goes Word ts h) (λ u g. on_either (After P) (is OpenSquare u) _ _
      (on_then P (After P) (take CloseSquare (rest u)) _ (take_leaves P goes CloseSquare (rest u) (goes u g)) (λ v f. on_ok (After P) ((text ts, true), v) f)) (on_ok (After P) ((text ts, false), u) g)))

  next_word_leaves : (p : PropertyName) (ts : Tokens) → P ts → Leaves (After P) (next_word p ts)
  unfolding next_word
  next_word_leaves p ts h = on_then P (After P) (take Word ts) _ (take_leaves P goes Word ts h) (λ u g. on_ok (After P) (_, u) g)

  pname_leaves : (ts : Tokens) → P ts → Leaves (After P) (pname ts)
  unfolding pname
  pname_leaves ts h = on_then P (After P) (take Word ts) _ (take_leaves P goes Word ts h) (λ u g. chain_leaves P goes Colon next_word next_word_leaves (record { name = text ts; line = line_of ts }) u g)

  some_value_leaves : (ts : Tokens) → P ts → Leaves P (some_value ts)
  unfolding some_value
  some_value_leaves ts h = on_either P (is Equals ts) _ _ (value_leaves P goes 64 (rest ts) (goes ts h)) (on_ok P ts h)

  relation_value_leaves : (used : Bool) (name : List ℕ) (b : PrimProperties) (ts : Tokens) → P ts → Leaves (After P) (relation_value used name b ts)
  unfolding relation_value
  relation_value_leaves used name b ts h = on_either (After P) (used && is Equals ts) _ _
      (on_then (After P) (After P) (targets (rest ts)) _ (targets_leaves P goes (rest ts) (goes ts h)) (λ t g. on_ok (After P) (_, t.1) g))
      (on_then P (After P) (some_value ts) _ (some_value_leaves ts h) (λ u g. on_ok (After P) (b, u) g))

  before_value_leaves : (rule : PropertyRule) (ts : Tokens) → P ts → Leaves P (before_value rule ts)
  unfolding before_value
  before_value_leaves rule ts h = on_either P (needs_value rule && not (is Equals ts)) _ _ (on_fault P (fault_at ts Syntax)) (on_ok P ts h)

  relation_leaves : (rule : PropertyRule) (listed : Bool) (b : PrimProperties) (ts : Tokens) → P ts → Leaves (After P) (relation rule listed b ts)
  unfolding relation
  relation_leaves rule listed b ts h = on_then (After P) (After P) (pname ts) _ (pname_leaves ts h) (λ p a.
      on_then Whatever (After P) (new_name (is_for_use rule && is_misnamed_relation listed p.0.name) p.0.name p.0.line b.properties) _ (on_any (new_name (is_for_use rule && is_misnamed_relation listed p.0.name) p.0.name p.0.line b.properties)) (λ seen _.
      on_then P (After P) (before_value rule p.1) _ (before_value_leaves rule p.1 a) (λ u e.
      on_then (After P) (After P) (relation_value (is_for_use rule && is_target_name p.0.name) p.0.name (record b { properties = seen }) u) _ (relation_value_leaves (is_for_use rule && is_target_name p.0.name) p.0.name (record b { properties = seen }) u e) (λ r c.
      on_then P (After P) (metadata r.1) _ (metadata_leaves P goes r.1 c) (λ end d. on_ok (After P) (r.0, end) d)))))

  tail_at_leaves : (ts : Tokens) → P ts → P (tail_at ts).1
  unfolding tail_at point_tail
  tail_at_leaves ts h = on_choice (After P) (is Point ts) (point_tail (rest ts)) (Plain, ts)
      (on_choice (After P) (is_word (codes "connect") (rest ts)) (Connect, rest (rest ts)) _ (goes (rest ts) (goes ts h))
      (on_choice (After P) (is_word (codes "timeSamples") (rest ts)) (Samples, rest (rest ts)) (Other, rest ts) (goes (rest ts) (goes ts h)) (goes ts h))) h

  sample_leaves : (ts : Tokens) → P ts → Leaves P (sample ts)
  unfolding sample
  sample_leaves ts h = on_then P P (take Number ts) _ (take_leaves P goes Number ts h) (λ u g. on_then P P (take Colon u) _ (take_leaves P goes Colon u g) (value_leaves P goes 63))

  next_sample_leaves : (ts : Tokens) → P ts → Leaves P (next_sample ts)
  unfolding next_sample
  next_sample_leaves ts h = on_then P P (take Comma ts) _ (take_leaves P goes Comma ts h) (λ u g. on_either P (is CloseCurly u) _ _ (on_ok P u g) (sample_leaves u g))

  samples_leaves : (ts : Tokens) → P ts → Leaves P (samples ts)
  unfolding samples
  samples_leaves ts h = on_then P P (take OpenCurly ts) _ (take_leaves P goes OpenCurly ts h)
      (λ u g. on_either P (is CloseCurly u) _ _ (on_ok P (rest u) (goes u g)) (on_then P P (sample u) _ (sample_leaves u g) (past_leaves P goes CloseCurly next_sample next_sample_leaves)))

  samples_value_leaves : (ts : Tokens) → P ts → Leaves P (samples_value ts)
  unfolding samples_value
  samples_value_leaves ts h = on_then P P (take Equals ts) _ (take_leaves P goes Equals ts h) samples_leaves

  plain_value_leaves : (role : Option AttributeKind) (name : List ℕ) (b : PrimProperties) (ts : Tokens) → P ts → Leaves (After P) (plain_value role name b ts)
  plain_value_leaves None name b ts h = on_then P (After P) (some_value ts) _ (some_value_leaves ts h) (λ u g. on_ok (After P) (b, u) g)
  plain_value_leaves (Some role) name b ts h = on_either (After P) (is Equals ts) _ _
      (on_then (After P) (After P) (used_value role (rest ts)) _ (used_value_leaves P goes role (rest ts) (goes ts h)) (λ v g. on_ok (After P) (_, v.1) g)) (on_ok (After P) (b, ts) h)

  tail_value_leaves : (tail : Tail) (role : Option AttributeKind) (name : List ℕ) (b : PrimProperties) (ts : Tokens) → P ts → Leaves (After P) (tail_value tail role name b ts)
  tail_value_leaves Plain role name b ts h = plain_value_leaves role name b ts h
  tail_value_leaves Connect role name b ts h = on_then P (After P) (some_value ts) _ (some_value_leaves ts h) (λ u g. on_ok (After P) (b, u) g)
  tail_value_leaves Samples role name b ts h = on_then P (After P) (samples_value ts) _ (samples_value_leaves ts h) (λ u g. on_ok (After P) (b, u) g)
  tail_value_leaves Other role name b ts h = on_fault (After P) (fault_at ts Syntax)

  after_name_leaves : (rule : PropertyRule) (header : AttributeHeader) (p : PropertyName) (b : PrimProperties) (ts : Tokens) → P ts → Leaves (After P) (after_pname rule header p b ts)
  unfolding after_pname
  after_name_leaves rule header p b ts h =
      on_then Whatever (After P) (new_attribute (tail_at ts).0 (is_left_out rule p.name header (tail_at ts).0) p b.properties (tail_at ts).1) _ (on_any (new_attribute (tail_at ts).0 (is_left_out rule p.name header (tail_at ts).0) p b.properties (tail_at ts).1)) (λ seen _.
      on_then P (After P) (before_value rule (tail_at ts).1) _ (before_value_leaves rule (tail_at ts).1 (tail_at_leaves ts h)) (λ u e.
      on_then (After P) (After P) (tail_value (tail_at ts).0 (own_role rule p.name) p.name (record b { properties = seen }) u) _ (tail_value_leaves (tail_at ts).0 (own_role rule p.name) p.name (record b { properties = seen }) u e) (λ r c.
      on_then P (After P) (metadata r.1) _ (metadata_leaves P goes r.1 c) (λ end d. on_ok (After P) (r.0, end) d))))

  attribute_leaves : (rule : PropertyRule) (listed : Bool) (b : PrimProperties) (ts : Tokens) → P ts → Leaves (After P) (attribute rule listed b ts)
  unfolding attribute
  attribute_leaves rule listed b ts h = on_then (After P) (After P) (own_type ts) _ (own_type_leaves ts h) (λ t a.
      on_then (After P) (After P) (pname t.1) _ (pname_leaves t.1 a) (λ p c. after_name_leaves rule (record { listed = listed; word = t.0.0; brackets = t.0.1 }) p.0 b p.1 c))

  property_leaves : (rule : PropertyRule) (b : PrimProperties) (ts : Tokens) → P ts → Leaves (After P) (property rule b ts)
  unfolding property relation_or_attribute
  property_leaves rule b ts h = on_then (After P) (After P) (list_op ts) _ (list_op_leaves ts h) (λ l a.
      let u : Tokens = past_modifiers l.1 in
      let g : P u = past_modifiers_leaves l.1 a in
      on_either (After P) (is_word (codes "rel") u) (relation rule l.0 b (rest u)) (attribute rule l.0 b u) (relation_leaves rule l.0 b (rest u) (goes u g)) (attribute_leaves rule l.0 b u g))

  prim_type_leaves : (ts : Tokens) → P ts → Leaves (After P) (prim_type ts)
  unfolding prim_type
  prim_type_leaves ts h = on_either (After P) (is Word ts) _ _
      (on_either (After P) (nat_lt (limit_of Name) (length (text ts))) _ _ (on_fault (After P) (fault_at ts (Limit Name))) (on_ok (After P) (text ts, rest ts) (goes ts h))) (on_ok (After P) ([], ts) h)

  prim_name_leaves : (room : ℕ) (counts : Bool) (count : ℕ) (names : NameSet) (ts : Tokens) → P ts → Leaves (After P) (prim_name room counts count names ts)
  unfolding prim_name
  prim_name_leaves room counts count names ts h =
      on_either (After P) (not (is_name ts)) _ _ (on_fault (After P) (fault_at ts Syntax))
      (on_either (After P) (room == 0) _ _ (on_fault (After P) (fault_at ts (Limit Depth)))
      (on_either (After P) (nat_lt (limit_of Name) (length (text ts))) _ _ (on_fault (After P) (fault_at ts (Limit Name)))
      (on_then Whatever (After P) (next_count counts (line_of ts) count) _ (on_any (next_count counts (line_of ts) count)) (λ n _.
      on_then Whatever (After P) (new_name false (text ts) (line_of ts) names) _ (on_any (new_name false (text ts) (line_of ts) names)) (λ seen _. on_ok (After P) (_, rest ts) (goes ts h))))))

  pub head_leaves : (room : ℕ) (counts : Bool) (count : ℕ) (names : NameSet) (ts : Tokens) → P ts → Leaves (After P) (prim_header room counts count names ts)
  unfolding prim_header
  head_leaves room counts count names ts h =
      on_then (After P) (After P) (prim_type ts) _ (prim_type_leaves ts h) (λ k a.
      on_then (After P) (After P) (prim_name room counts count names k.1) _ (prim_name_leaves room counts count names k.1 a) (λ n c.
      on_then P (After P) (metadata n.1) _ (metadata_leaves P goes n.1 c) (λ u d.
      on_then P (After P) (take OpenCurly u) _ (take_leaves P goes OpenCurly u d) (λ v e. on_ok (After P) (_, v) e))))

  property_item_leaves : (counts : Bool) (s : PrimScope) (ts : Tokens) → P ts → Leaves (After P) (property_item counts s ts)
  unfolding property_item
  property_item_leaves counts s ts h = on_then (After P) (After P) (property (rule_of counts) s.body ts) _ (property_leaves (rule_of counts) s.body ts h) (λ b g. on_ok (After P) (record s { body = b.0 }, b.1) g)

  pub item_leaves : (form : PrimForm) → ((counts : Bool) (s : PrimScope) (ts : Tokens) → P ts → Leaves (After P) (form counts s ts)) → (counts : Bool) (s : PrimScope) (ts : Tokens) → P ts → Leaves (After P) (item form counts s ts)
  unfolding item
  item_leaves form each counts s ts h = on_either (After P) (is_word (codes "variantSet") ts) _ _ (on_fault (After P) (fault_at ts LeftOut))
      (on_then (After P) (After P) (if is_prim ts then form (counts && not (is_word (codes "class") ts)) s (rest ts) else property_item counts s ts) _
      (on_either (After P) (is_prim ts) (form (counts && not (is_word (codes "class") ts)) s (rest ts)) (property_item counts s ts) (each (counts && not (is_word (codes "class") ts)) s (rest ts) (goes ts h)) (property_item_leaves counts s ts h))
      (λ r g. on_ok (After P) (r.0, past_one Semicolon r.1) (past_one_leaves P goes Semicolon r.1 g)))

  pub prim_leaves : (room : ℕ) (path : Path) (counts : Bool) (s : PrimScope) (ts : Tokens) → P ts → Leaves (After P) (prim room path counts s ts)
  unfolding prim body
  prim_leaves zero path counts s ts h = on_then (After P) (After P) (prim_header 0 counts s.builder.count s.names ts) _ (head_leaves 0 counts s.builder.count s.names ts h) (λ k g. on_ok (After P) (_, k.1) g)
  prim_leaves (suc room) path counts s ts h =
      on_then (After P) (After P) (prim_header (suc room) counts s.builder.count s.names ts) _ (head_leaves (suc room) counts s.builder.count s.names ts h) (λ k a.
      on_then (After P) (After P) (all CloseCurly (item (prim room (path ++ k.0.named.name ∷ [])) counts) (new_scope (record s.builder { count = k.0.named.count })) k.1) _
      (all_leaves P goes CloseCurly (item (prim room (path ++ k.0.named.name ∷ [])) counts) (item_leaves (prim room (path ++ k.0.named.name ∷ [])) (prim_leaves room (path ++ k.0.named.name ∷ [])) counts) (new_scope (record s.builder { count = k.0.named.count })) k.1 a)
      (λ b g. on_ok (After P) (_, b.1) g))
