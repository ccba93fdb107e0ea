-- The properties of a prim take tokens.
use Rattle.std.proofs.Common.{ℕ, suc, ◌<◌, List, Option, Some, None, Ok, IfOk, Bool, true, false, ◌&&◌, not, if◌then◌else◌, ◌||◌, codes, refl, arith}
use Rattle.hd_lexer.specs.declared.lexer.Kind.TheVariants.{Word, Number, OpenSquare, CloseSquare, OpenCurly, CloseCurly, Equals, Comma, Colon, Point}
use Rattle.hd_tokens.specs.declared.properties.AttributeKind.{AttributeKind}
use Rattle.hd_usda.specs.declared.grammar.attribute.Tail.{Tail}
use Rattle.hd_usda.specs.declared.grammar.attribute.Tail.TheVariants.{Plain, Connect, Samples, Other}
use Rattle.hd_lexer.specs.Lexing.{Tokens}
use Rattle.hd_usda.specs.reading.Cursor.{◌>>=◌, is, is_word, rest, count, text, line_of, take}
use Rattle.hd_usda.specs.grammar.Metadata.{list_ops, metadata}
use Rattle.hd_tokens.specs.Names.{is_any}
use Rattle.hd_tokens.specs.Properties.{is_target_name}
use Rattle.hd_usda.specs.used.Targets.{targets}
use Rattle.hd_usda.specs.used.Values.{used_value}
use Rattle.hd_usda.specs.grammar.Value.{some_value}
use Rattle.hd_usda.specs.grammar.NameSet.{new_name}
use Rattle.hd_usda.specs.grammar.Header.{reserved_words, list_op, past_word, past_modifiers, own_type, PropertyName, next_word, pname}
use Rattle.hd_usda.specs.grammar.Kept.{PrimProperties}
use Rattle.hd_usda.specs.grammar.Attribute.{point_tail, tail_at, AttributeHeader, is_left_out, new_attribute, sample, next_sample, samples, samples_value, plain_value, tail_value, own_role, after_pname, attribute}
use Rattle.hd_usda.specs.grammar.Property.{relation_value, is_misnamed_relation, relation, relation_or_attribute, property}
use Rattle.hd_usda.specs.declared.grammar.rule.PropertyRule.{PropertyRule}
use Rattle.hd_usda.specs.grammar.Rule.{is_for_use, needs_value, before_value}
use Rattle.hd_usda.proofs.Takes.{Below, After, PastTakes, Takes, PastKeeps, Keeps, chained, chosen, whatever, past_keeps, keeps, later, rest_keeps, take_takes, take_keeps, past_form_keeps, chain_keeps}
use Rattle.hd_usda.proofs.TakesValues.{value_keeps, metadata_keeps}
use Rattle.hd_usda.proofs.TakesUsed.{used_value_takes, targets_keep}

list_op_keeps : Keeps list_op
unfolding list_op
list_op_keeps n ts low =
    chosen (After n) _ _ (is Word ts && is_any list_ops (text ts)) (λ _.
    chosen (After n) _ _ (is_word (codes "reorder") ts && (is_word (codes "nameChildren") (rest ts) || is_word (codes "properties") (rest ts))) (λ _. tt) (λ _. rest_keeps n ts low))
    (λ _. low)

-- a token may be passed or not
passed_keeps : (found : Bool) (n : ℕ) (ts u : Tokens) → count u < n → count ts < n → count (if found then u else ts) < n
passed_keeps true n ts u more low = more
passed_keeps false n ts u more low = low

past_word_keeps : (word : List ℕ) (n : ℕ) (ts : Tokens) → count ts < n → count (past_word word ts) < n
unfolding past_word
past_word_keeps word n ts low = passed_keeps (is_word word ts) n ts (rest ts) (rest_keeps n ts low) low

past_modifiers_keep : (n : ℕ) (ts : Tokens) → count ts < n → count (past_modifiers ts) < n
unfolding past_modifiers
past_modifiers_keep n ts low =
    let u = past_word (codes "custom") ts in
    let first : count u < n = past_word_keeps (codes "custom") n ts low in
    passed_keeps (is_word (codes "uniform") u) n (past_word (codes "varying") u) (rest u) (rest_keeps n u first) (past_word_keeps (codes "varying") n u first)

own_type_takes : Takes own_type
unfolding own_type
own_type_takes ts =
    chosen (After (count ts)) _ _ (is Word ts && is_any reserved_words (text ts)) (λ _. tt) (λ _.
    chained (Below (count ts)) (After (count ts)) _ (take Word ts) (take_takes Word refl ts) (λ u low.
    chosen (After (count ts)) _ _ (is OpenSquare u)
    (λ _. chained (Below (count ts)) (After (count ts)) (λ v. Ok ((text ts, true), v)) (take CloseSquare (rest u)) (take_keeps CloseSquare refl (count ts) (rest u) (rest_keeps (count ts) u low)) (λ v low1. low1))
    (λ _. low)))

pub next_word_takes : (p : PropertyName) → Takes (next_word p)
unfolding next_word
next_word_takes p ts = chained (Below (count ts)) (After (count ts)) _ (take Word ts) (take_takes Word refl ts) (λ u low. low)

pname_takes : Takes pname
unfolding pname
pname_takes ts =
    chained (Below (count ts)) (After (count ts)) _ (take Word ts) (take_takes Word refl ts) (λ u low.
    chain_keeps Colon next_word (λ p. keeps (next_word p) (next_word_takes p)) (record { name = text ts; line = line_of ts }) (count ts) u low)

some_value_keeps : PastKeeps some_value
unfolding some_value
some_value_keeps n ts low = chosen (Below n) _ _ (is Equals ts) (λ _. value_keeps 64 n (rest ts) (rest_keeps n ts low)) (λ _. low)

-- a value of which nothing is kept, or none, beside what is so far
beside_some_value : (body : PrimProperties) (n : ℕ) (ts : Tokens) → count ts < n → IfOk (some_value ts >>= λ u. Ok (body, u)) (After n)
beside_some_value body n ts low = chained (Below n) (After n) (λ u. Ok (body, u)) (some_value ts) (some_value_keeps n ts low) (λ u low1. low1)

relation_value_keeps : (used : Bool) (name : List ℕ) (body : PrimProperties) → Keeps (relation_value used name body)
unfolding relation_value
relation_value_keeps used name body n ts low =
    chosen (After n) _ _ (used && is Equals ts) (λ _.
    chained (After n) (After n) _ (targets (rest ts)) (targets_keep n (rest ts) (rest_keeps n ts low)) (λ t low1. low1)) (λ _.
    beside_some_value body n ts low)

-- metadata after a value
before_metadata : {A : Type 0} (x : A) (n : ℕ) (ts : Tokens) → count ts < n → IfOk (metadata ts >>= λ end. Ok (x, end)) (After n)
before_metadata x n ts low = chained (Below n) (After n) (λ end. Ok (x, end)) (metadata ts) (metadata_keeps n ts low) (λ end low1. low1)

before_value_keeps : (rule : PropertyRule) → PastKeeps (before_value rule)
unfolding before_value
before_value_keeps rule n ts low = chosen (Below n) _ _ (needs_value rule && not (is Equals ts)) (λ _. tt) (λ _. low)

relation_takes : (rule : PropertyRule) (listed : Bool) (body : PrimProperties) → Takes (relation rule listed body)
unfolding relation
relation_takes rule listed body ts =
    chained (After (count ts)) (After (count ts)) _ (pname ts) (pname_takes ts) (λ p low.
    whatever (After (count ts)) _ (new_name (is_for_use rule && is_misnamed_relation listed p.0.name) p.0.name p.0.line body.properties) (λ seen.
    chained (Below (count ts)) (After (count ts)) _ (before_value rule p.1) (before_value_keeps rule (count ts) p.1 low) (λ u low0.
    chained (After (count ts)) (After (count ts)) _ (relation_value (is_for_use rule && is_target_name p.0.name) p.0.name (record body { properties = seen }) u) (relation_value_keeps (is_for_use rule && is_target_name p.0.name) p.0.name (record body { properties = seen }) (count ts) u low0) (λ r low1.
    before_metadata r.0 (count ts) r.1 low1))))

tail_keeps : (n : ℕ) (ts : Tokens) → count ts < n → count (tail_at ts).1 < n
unfolding tail_at point_tail
tail_keeps n ts low = at (is Point ts)
  where
    after_point : (connected sampled : Bool) (u : Tokens) → count u < n → After {A = Tail} n (if connected then (Connect, rest u) else (if sampled then (Samples, rest u) else (Other, u)))
    after_point true sampled u low1 = rest_keeps n u low1
    after_point false true u low1 = rest_keeps n u low1
    after_point false false u low1 = low1

    at : (point : Bool) → After {A = Tail} n (if point then point_tail (rest ts) else (Plain, ts))
    at true = after_point (is_word (codes "connect") (rest ts)) (is_word (codes "timeSamples") (rest ts)) (rest ts) (rest_keeps n ts low)
    at false = low

sample_takes : PastTakes sample
unfolding sample
sample_takes ts =
    chained (Below (count ts)) (Below (count ts)) _ (take Number ts) (take_takes Number refl ts) (λ u low.
    chained (Below (count ts)) (Below (count ts)) _ (take Colon u) (take_keeps Colon refl (count ts) u low) (λ v low1.
    value_keeps 63 (count ts) v low1))

pub next_sample_takes : PastTakes next_sample
unfolding next_sample
next_sample_takes ts =
    chained (Below (count ts)) (Below (count ts)) _ (take Comma ts) (take_takes Comma refl ts) (λ u low.
    chosen (Below (count ts)) _ _ (is CloseCurly u) (λ _. low) (λ _. past_keeps sample sample_takes (count ts) u low))

samples_keep : PastKeeps samples
unfolding samples
samples_keep n ts low =
    chained (Below n) (Below n) _ (take OpenCurly ts) (take_keeps OpenCurly refl n ts low) (λ u low1.
    chosen (Below n) _ _ (is CloseCurly u) (λ _. rest_keeps n u low1) (λ _.
    chained (Below n) (Below n) _ (sample u) (past_keeps sample sample_takes n u low1) (λ v low2.
    past_form_keeps CloseCurly next_sample (past_keeps next_sample next_sample_takes) n v low2)))

samples_value_keeps : PastKeeps samples_value
unfolding samples_value
samples_value_keeps n ts low =
    chained (Below n) (Below n) _ (take Equals ts) (take_keeps Equals refl n ts low) (λ u low1. samples_keep n u low1)

plain_value_keeps : (role : Option AttributeKind) (name : List ℕ) (body : PrimProperties) → Keeps (plain_value role name body)
plain_value_keeps None name body n ts low = beside_some_value body n ts low
plain_value_keeps (Some role) name body n ts low =
    chosen (After n) _ _ (is Equals ts) (λ _.
    chained (After n) (After n) _ (used_value role (rest ts)) (keeps (used_value role) (used_value_takes role) n (rest ts) (rest_keeps n ts low)) (λ v low1. low1)) (λ _. low)

tail_value_keeps : (tail : Tail) (role : Option AttributeKind) (name : List ℕ) (body : PrimProperties) → Keeps (tail_value tail role name body)
tail_value_keeps Plain role name body n ts low = plain_value_keeps role name body n ts low
tail_value_keeps Connect role name body n ts low = beside_some_value body n ts low
tail_value_keeps Samples role name body n ts low = chained (Below n) (After n) (λ u. Ok (body, u)) (samples_value ts) (samples_value_keeps n ts low) (λ u low1. low1)
tail_value_keeps Other role name body n ts low = tt

after_name_keeps : (rule : PropertyRule) (header : AttributeHeader) (p : PropertyName) (body : PrimProperties) → Keeps (after_pname rule header p body)
unfolding after_pname
after_name_keeps rule header p body n ts low =
    whatever (After n) _ (new_attribute (tail_at ts).0 (is_left_out rule p.name header (tail_at ts).0) p body.properties (tail_at ts).1) (λ seen.
    chained (Below n) (After n) _ (before_value rule (tail_at ts).1) (before_value_keeps rule n (tail_at ts).1 (tail_keeps n ts low)) (λ u low0.
    chained (After n) (After n) _ (tail_value (tail_at ts).0 (own_role rule p.name) p.name (record body { properties = seen }) u) (tail_value_keeps (tail_at ts).0 (own_role rule p.name) p.name (record body { properties = seen }) n u low0) (λ r low1.
    before_metadata r.0 n r.1 low1)))

attribute_takes : (rule : PropertyRule) (listed : Bool) (body : PrimProperties) → Takes (attribute rule listed body)
unfolding attribute
attribute_takes rule listed body ts =
    chained (After (count ts)) (After (count ts)) _ (own_type ts) (own_type_takes ts) (λ t low.
    chained (After (count ts)) (After (count ts)) _ (pname t.1) (keeps pname pname_takes (count ts) t.1 low) (λ p low1.
    after_name_keeps rule (record { listed = listed; word = t.0.0; brackets = t.0.1 }) p.0 body (count ts) p.1 low1))

relation_or_attribute_takes : (rule : PropertyRule) (listed : Bool) (body : PrimProperties) → Takes (relation_or_attribute rule listed body)
unfolding relation_or_attribute
relation_or_attribute_takes rule listed body ts =
    chosen (After (count ts)) _ _ (is_word (codes "rel") ts)
    (λ _. later (relation rule listed body) (relation_takes rule listed body) (count ts) (rest ts) (rest_keeps (suc (count ts)) ts (omega arith)))
    (λ _. attribute_takes rule listed body ts)

pub property_takes : (rule : PropertyRule) (body : PrimProperties) → Takes (property rule body)
unfolding property
property_takes rule body ts =
    chained (After (suc (count ts))) (After (count ts)) _ (list_op ts) (list_op_keeps (suc (count ts)) ts (omega arith)) (λ l low.
    later (relation_or_attribute rule l.0 body) (relation_or_attribute_takes rule l.0 body) (count ts) (past_modifiers l.1) (past_modifiers_keep (suc (count ts)) l.1 low))
