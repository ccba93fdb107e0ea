-- With "=" after its name, a property that needs a value reads as one that may have none.
use Rattle.std.proofs.Common.{◌≡◌, ℕ, List, [], ◌∷◌, Bool, true, false, ◌&&◌, ◌||◌, not, if◌then◌else◌, Option, None, Some, Result, Ok, Err, refl, sym, ap, subst, codes}
use Rattle.std.specs.FinSet.{contains, insert}
use Rattle.hd_lexer.specs.declared.lexer.Kind.{Kind}
use Rattle.hd_lexer.specs.declared.lexer.Kind.TheVariants.{Equals, Point}
use Rattle.hd_layer.specs.declared.fault.LayerWhy.TheVariants.{Syntax, Twice, LeftOut}
use Rattle.hd_tokens.specs.declared.properties.AttributeKind.{AttributeKind}
use Rattle.hd_tokens.specs.Properties.{is_target_name}
use Rattle.hd_lexer.specs.Lexing.{Tokens}
use Rattle.hd_usda.specs.declared.grammar.attribute.Tail.{Tail}
use Rattle.hd_usda.specs.declared.grammar.attribute.Tail.TheVariants.{Plain, Connect, Samples, Other}
use Rattle.hd_usda.specs.declared.grammar.rule.PropertyRule.{PropertyRule}
use Rattle.hd_usda.specs.declared.grammar.rule.PropertyRule.TheVariants.{Used, Assigned}
use Rattle.hd_usda.specs.reading.Cursor.{◌>>=◌, Fault, is, is_word, rest, kind, same_kind, fault_in, fault_at}
use Rattle.hd_usda.specs.used.Targets.{targets}
use Rattle.hd_usda.specs.used.Values.{used_value}
use Rattle.hd_usda.specs.grammar.Value.{some_value}
use Rattle.hd_usda.specs.grammar.Metadata.{metadata}
use Rattle.hd_usda.specs.grammar.NameSet.{NameSet, new_name}
use Rattle.hd_usda.specs.grammar.Header.{list_op, past_modifiers, own_type, PropertyName, pname}
use Rattle.hd_usda.specs.grammar.Kept.{PrimProperties, no_properties}
use Rattle.hd_usda.specs.grammar.Rule.{is_for_use, before_value}
use Rattle.hd_usda.specs.grammar.Attribute.{point_tail, tail_at, with_tail, AttributeHeader, is_misnamed, is_left_out, new_attribute, samples_value, plain_value, tail_value, own_role, after_pname, attribute}
use Rattle.hd_usda.specs.grammar.Property.{relation_value, is_misnamed_relation, relation, relation_or_attribute, property}
use Rattle.hd_usda.specs.Statement.{first_of}
use Rattle.hd_usda.specs.Laws.{values_of, after_own_name, after_property_name, begins_with_equals}
use Rattle.hd_usda.proofs.Answering.{Leaves, Whatever, on_then, on_either, on_ok, on_fault, on_any}

-- nothing is read
abbrev pub Refused : {A : Type 0} → Result A Fault → Type 0
Refused (Ok x) = ⊥
Refused (Err fault) = Unit {0}

-- both read the same where "=" begins these tokens, and the first is refused where it does not
abbrev pub Alike : {A : Type 0} → Result Tokens Fault → Result A Fault → Result A Fault → Type 0
Alike after script prim = (begins_with_equals after ≡ true → script ≡ prim) × (begins_with_equals after ≡ false → Refused script)

-- both read one form first
both : {A B : Type 0} (o : Result A Fault) (name : A → Result Tokens Fault) (f g : A → Result B Fault) → ((x : A) → Alike (name x) (f x) (g x)) → Alike (o >>= name) (o >>= f) (o >>= g)
both (Ok x) name f g after = after x
both (Err fault) name f g after = (λ e. refl, λ e. tt)

-- both take one name first, and nothing of the tokens
both_names : {A B : Type 0} (o : Result A Fault) (ts : Tokens) (f g : A → Result B Fault) → ((x : A) → Alike (Ok ts) (f x) (g x)) → Alike (Ok ts) (o >>= f) (o >>= g)
both_names (Ok x) ts f g after = after x
both_names (Err fault) ts f g after = (λ e. refl, λ e. tt)

same_before : (ts : Tokens) → is Equals ts ≡ true → before_value Assigned ts ≡ before_value Used ts
unfolding before_value
same_before ts e = rw e refl

none_before : (ts : Tokens) → is Equals ts ≡ false → before_value Assigned ts ≡ Err (fault_at ts Syntax)
unfolding before_value
none_before ts e = rw e refl

-- a value is needed or not
values : {B : Type 0} (ts : Tokens) (k : Tokens → Result B Fault) → Alike (Ok ts) (before_value Assigned ts >>= k) (before_value Used ts >>= k)
values ts k = (λ e. ap (λ o. o >>= k) (same_before ts e), λ e. subst (λ o. Refused (o >>= k)) (sym (none_before ts e)) tt)

relations : (listed : Bool) (body : PrimProperties) (ts : Tokens) → Alike (pname ts >>= λ p. Ok p.1) (relation Assigned listed body ts) (relation Used listed body ts)
unfolding relation
relations listed body ts = both (pname ts) _ _ _ (λ p. both_names (new_name (is_misnamed_relation listed p.0.name) p.0.name p.0.line body.properties) p.1 _ _ (λ seen. values p.1 _))

no_point : (ts : Tokens) → is Equals ts ≡ true → is Point ts ≡ false
unfolding is
no_point ts e = other (kind ts) e
  where
    other : (k : Kind) → same_kind k Equals ≡ true → same_kind k Point ≡ false
    other Point e = absurd (cc)
    other k e = refl

plain_at : (ts : Tokens) → is Point ts ≡ false → tail_at ts ≡ (Plain, ts)
unfolding tail_at
plain_at ts e = rw e refl

-- a tail after a point
abbrev IsPointed : Tail → Type 0
IsPointed Plain = ⊥
IsPointed Connect = Unit {0}
IsPointed Samples = Unit {0}
IsPointed Other = Unit {0}

pointed_at : (ts : Tokens) → is Point ts ≡ true → IsPointed (tail_at ts).0
unfolding tail_at point_tail
pointed_at ts e = rw e (by_words (is_word (codes "connect") (rest ts)) (is_word (codes "timeSamples") (rest ts)))
  where
    by_words : (connected sampled : Bool) → IsPointed (if◌then◌else◌ {A = Tail × Tokens} connected (Connect, rest (rest ts)) (if◌then◌else◌ {A = Tail × Tokens} sampled (Samples, rest (rest ts)) (Other, rest ts))).0
    by_words true sampled = tt
    by_words false true = tt
    by_words false false = tt

-- a name that is left out for its tail
left_out : {B : Type 0} (misnamed : Bool) (name : List ℕ) (line : ℕ) (seen : NameSet) (k : NameSet → Result B Fault) → Refused (new_name (misnamed || true) name line seen >>= k)
unfolding new_name
left_out {B} misnamed name line seen k = by_name (contains seen name) misnamed
  where
    by_name : (there m : Bool) → Refused {A = B} ((if there then Err (fault_in line Twice) else (if m || true then Err (fault_in line LeftOut) else Ok (insert seen name))) >>= k)
    by_name true m = tt
    by_name false true = tt
    by_name false false = tt

pointed_refused : {B : Type 0} (tail : Tail) (header : AttributeHeader) (p : PropertyName) (seen : NameSet) (us : Tokens) (k : NameSet → Result B Fault) → IsPointed tail → Refused (new_attribute tail (is_left_out Assigned p.name header tail) p seen us >>= k)
pointed_refused Plain header p seen us k pointed = absurd pointed
pointed_refused Connect header p seen us k pointed = left_out (is_misnamed p.name header Connect) (with_tail Connect p.name) p.line seen k
pointed_refused Samples header p seen us k pointed = left_out (is_misnamed p.name header Samples) (with_tail Samples p.name) p.line seen k
pointed_refused Other header p seen us k pointed = tt

-- an attribute without tail
plain_alike : (header : AttributeHeader) (p : PropertyName) (body : PrimProperties) (ts : Tokens) → is Point ts ≡ false → Alike (Ok ts) (after_pname Assigned header p body ts) (after_pname Used header p body ts)
unfolding after_pname
plain_alike header p body ts e = rw (plain_at ts e) (both_names (new_attribute Plain (is_misnamed p.name header Plain || false) p body.properties ts) ts _ _ (λ seen. values ts _))

after_names : (header : AttributeHeader) (p : PropertyName) (body : PrimProperties) (ts : Tokens) → Alike (Ok ts) (after_pname Assigned header p body ts) (after_pname Used header p body ts)
unfolding after_pname
after_names header p body ts = (λ e. (plain_alike header p body ts (no_point ts e)).0 e, λ e. by_point (is Point ts) refl e)
  where
    by_point : (point : Bool) → is Point ts ≡ point → is Equals ts ≡ false → Refused (after_pname Assigned header p body ts)
    by_point true here e = pointed_refused (tail_at ts).0 header p body.properties (tail_at ts).1 _ (pointed_at ts here)
    by_point false here e = (plain_alike header p body ts here).1 e

attributes : (listed : Bool) (body : PrimProperties) (ts : Tokens) → Alike (own_type ts >>= λ t. pname t.1 >>= λ p. Ok p.1) (attribute Assigned listed body ts) (attribute Used listed body ts)
unfolding attribute
attributes listed body ts =
    both (own_type ts) _ _ _ (λ t.
    both (pname t.1) _ _ _ (λ p.
    after_names (record { listed = listed; word = t.0.0; brackets = t.0.1 }) p.0 body p.1))

either_alike : (listed : Bool) (body : PrimProperties) (ts : Tokens) → Alike (after_own_name ts) (relation_or_attribute Assigned listed body ts) (relation_or_attribute Used listed body ts)
unfolding relation_or_attribute after_own_name
either_alike listed body ts = by_word (is_word (codes "rel") ts)
  where
    by_word : (rel : Bool) → Alike (if rel then (pname (rest ts) >>= λ p. Ok p.1) else (own_type ts >>= λ t. pname t.1 >>= λ p. Ok p.1))
        (if rel then relation Assigned listed body (rest ts) else attribute Assigned listed body ts) (if rel then relation Used listed body (rest ts) else attribute Used listed body ts)
    by_word true = relations listed body (rest ts)
    by_word false = attributes listed body ts

pub property_alike : (body : PrimProperties) (ts : Tokens) → Alike (after_property_name ts) (property Assigned body ts) (property Used body ts)
unfolding after_property_name property
property_alike body ts = both (list_op ts) _ _ _ (λ l. either_alike l.0 body (past_modifiers l.1))

-- no property is kept, or one
abbrev pub Single : PrimProperties × Tokens → Type 0
Single q = values_of (first_of q.0.values) ≡ q.0.values

-- a prim with this name and no value
abbrev only_name : NameSet → PrimProperties
only_name seen = record { properties = seen; values = [] }

relation_value_single : (used : Bool) (name : List ℕ) (seen : NameSet) (ts : Tokens) → Leaves Single (relation_value used name (only_name seen) ts)
unfolding relation_value
relation_value_single used name seen ts = on_either Single (used && is Equals ts) _ _
    (on_then Whatever Single (targets (rest ts)) _ (on_any (targets (rest ts))) (λ t _. on_ok Single (_, t.1) refl))
    (on_then Whatever Single (some_value ts) _ (on_any (some_value ts)) (λ u _. on_ok Single (_, u) refl))

relation_single : (rule : PropertyRule) (listed : Bool) (ts : Tokens) → Leaves Single (relation rule listed no_properties ts)
unfolding relation
relation_single rule listed ts =
    on_then Whatever Single (pname ts) _ (on_any (pname ts)) (λ p _.
    on_then Whatever Single (new_name (is_for_use rule && is_misnamed_relation listed p.0.name) p.0.name p.0.line no_properties.properties) _ (on_any (new_name (is_for_use rule && is_misnamed_relation listed p.0.name) p.0.name p.0.line no_properties.properties)) (λ seen _.
    on_then Whatever Single (before_value rule p.1) _ (on_any (before_value rule p.1)) (λ u _.
    on_then Single Single (relation_value (is_for_use rule && is_target_name p.0.name) p.0.name (only_name seen) u) _ (relation_value_single (is_for_use rule && is_target_name p.0.name) p.0.name seen u) (λ r single.
    on_then Whatever Single (metadata r.1) _ (on_any (metadata r.1)) (λ end _. on_ok Single (r.0, end) single)))))

plain_value_single : (role : Option AttributeKind) (name : List ℕ) (seen : NameSet) (ts : Tokens) → Leaves Single (plain_value role name (only_name seen) ts)
plain_value_single None name seen ts = on_then Whatever Single (some_value ts) _ (on_any (some_value ts)) (λ u _. on_ok Single (_, u) refl)
plain_value_single (Some role) name seen ts = on_either Single (is Equals ts) _ _
    (on_then Whatever Single (used_value role (rest ts)) _ (on_any (used_value role (rest ts))) (λ v _. on_ok Single (_, v.1) refl)) (on_ok Single (_, ts) refl)

tail_value_single : (tail : Tail) (role : Option AttributeKind) (name : List ℕ) (seen : NameSet) (ts : Tokens) → Leaves Single (tail_value tail role name (only_name seen) ts)
tail_value_single Plain role name seen ts = plain_value_single role name seen ts
tail_value_single Connect role name seen ts = on_then Whatever Single (some_value ts) _ (on_any (some_value ts)) (λ u _. on_ok Single (_, u) refl)
tail_value_single Samples role name seen ts = on_then Whatever Single (samples_value ts) _ (on_any (samples_value ts)) (λ u _. on_ok Single (_, u) refl)
tail_value_single Other role name seen ts = on_fault Single (fault_at ts Syntax)

after_name_single : (rule : PropertyRule) (header : AttributeHeader) (p : PropertyName) (ts : Tokens) → Leaves Single (after_pname rule header p no_properties ts)
unfolding after_pname
after_name_single rule header p ts =
    on_then Whatever Single (new_attribute (tail_at ts).0 (is_left_out rule p.name header (tail_at ts).0) p no_properties.properties (tail_at ts).1) _ (on_any (new_attribute (tail_at ts).0 (is_left_out rule p.name header (tail_at ts).0) p no_properties.properties (tail_at ts).1)) (λ seen _.
    on_then Whatever Single (before_value rule (tail_at ts).1) _ (on_any (before_value rule (tail_at ts).1)) (λ u _.
    on_then Single Single (tail_value (tail_at ts).0 (own_role rule p.name) p.name (only_name seen) u) _ (tail_value_single (tail_at ts).0 (own_role rule p.name) p.name seen u) (λ r single.
    on_then Whatever Single (metadata r.1) _ (on_any (metadata r.1)) (λ end _. on_ok Single (r.0, end) single))))

attribute_single : (rule : PropertyRule) (listed : Bool) (ts : Tokens) → Leaves Single (attribute rule listed no_properties ts)
unfolding attribute
attribute_single rule listed ts =
    on_then Whatever Single (own_type ts) _ (on_any (own_type ts)) (λ t _.
    on_then Whatever Single (pname t.1) _ (on_any (pname t.1)) (λ p _.
    after_name_single rule (record { listed = listed; word = t.0.0; brackets = t.0.1 }) p.0 p.1))

-- a property alone leaves one value at most
pub property_single : (rule : PropertyRule) (ts : Tokens) → Leaves Single (property rule no_properties ts)
unfolding property relation_or_attribute
property_single rule ts = on_then Whatever Single (list_op ts) _ (on_any (list_op ts)) (λ l _.
    on_either Single (is_word (codes "rel") (past_modifiers l.1)) _ _ (relation_single rule l.0 (rest (past_modifiers l.1))) (attribute_single rule l.0 (past_modifiers l.1)))
