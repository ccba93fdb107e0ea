-- The used properties of a prim are well formed, and each is there once.
use Rattle.std.proofs.Common.{◌≡◌, ℕ, Bool, true, false, ◌&&◌, ◌||◌, not, if◌then◌else◌, List, [], ◌∷◌, ◌++◌, map, bytes_eq, Option, Some, None, Ok, Err, refl, sym, ap, subst, ◌∙◌, codes}
use Rattle.std.proofs.lemmas.Bool.{and_from, and_parts, or_parts, or_right, or_left, false_from_ne_true, not-true, true≢false}
use Rattle.std.proofs.lemmas.List.{map-append}
use Rattle.std.proofs.lemmas.List.Folds.{list_all-append}
use Rattle.std.proofs.lemmas.Slice.Eq.{bytes_eq-Decides}
use Rattle.std.proofs.lemmas.Cmp.{nat_list_cmp_total, tied_itself}
use Rattle.std.specs.List.{list_all, list_any}
use Rattle.std.specs.Ordering.{nat_cmp, eq_by_cmp, is_eq}
use Rattle.std.specs.Cmp.Lexicographic.{slice_cmp}
use Rattle.std.specs.FinSet.{contains, insert, contains-insert}
use Rattle.hd_lexer.specs.declared.lexer.Kind.TheVariants.{Equals}
use Rattle.hd_layer.specs.declared.fault.LayerWhy.TheVariants.{Syntax, Twice, LeftOut}
use Rattle.hd_tokens.specs.declared.properties.AttributeKind.{AttributeKind}
use Rattle.hd_usda.specs.declared.grammar.attribute.Tail.{Tail}
use Rattle.hd_usda.specs.declared.grammar.attribute.Tail.TheVariants.{Plain, Connect, Samples, Other}
use Rattle.hd_layer.specs.declared.spec.Property.{Property}
use Rattle.hd_layer.specs.declared.spec.RawValue.{RawValue}
use Rattle.hd_layer.specs.declared.spec.RawValue.TheVariants.{Paths}
use Rattle.hd_lexer.specs.Lexing.{Tokens}
use Rattle.hd_usda.specs.reading.Cursor.{is, is_word, rest, fault_in, fault_at}
use Rattle.hd_usda.specs.grammar.Metadata.{metadata}
use Rattle.hd_tokens.specs.Properties.{attribute_kind_of, is_used, is_target_name}
use Rattle.hd_usda.specs.used.Targets.{targets}
use Rattle.hd_usda.specs.used.Values.{used_value}
use Rattle.hd_usda.specs.grammar.Value.{some_value}
use Rattle.hd_usda.specs.grammar.NameSet.{NameSet, new_name}
use Rattle.hd_usda.specs.grammar.Header.{PropertyName, list_op, past_modifiers, own_type, pname}
use Rattle.hd_usda.specs.grammar.Kept.{PrimProperties, with_value}
use Rattle.hd_usda.specs.grammar.Attribute.{AttributeHeader, samples_value, tail_at, with_tail, new_attribute, plain_value, tail_value, own_role, after_pname, attribute, is_left_out}
use Rattle.hd_usda.specs.grammar.Property.{relation_value, is_misnamed_relation, relation, relation_or_attribute, property}
use Rattle.hd_usda.specs.declared.grammar.rule.PropertyRule.{PropertyRule}
use Rattle.hd_usda.specs.declared.grammar.rule.PropertyRule.TheVariants.{Any, Used, Assigned}
use Rattle.hd_usda.specs.grammar.Rule.{is_for_use, before_value}
use Rattle.hd_layer.specs.WellFormed.{is_property, are_distinct, has_form, is_list, is_below_root}
use Rattle.hd_usda.proofs.Answering.{ok_same, past_fault, Leaves, Whatever, on_then, on_either, on_test, on_ok, on_fault, on_any}
use Rattle.hd_usda.proofs.WellFormedPaths.{targets_are}
use Rattle.hd_usda.proofs.WellFormedValues.{used_value_is}
use Rattle.hd_usda.proofs.WellFormedProperties.{attribute_is, relation_is}

-- the names of properties
abbrev pub names_of : List Property → List (List ℕ)
names_of values = map (λ q. q.name) values

-- the properties so far are well formed, each is once, and each name was seen
pub record IsBody (b : PrimProperties) : Type 0 where
  pub used : list_all is_property b.values ≡ true
  pub once : are_distinct (names_of b.values) ≡ true
  pub seen : list_all (contains b.properties) (names_of b.values) ≡ true

-- a name that was not seen is seen from now on
record IsNew (name : List ℕ) (before after : NameSet) : Type 0 where
  fresh : contains before name ≡ false
  added : insert before name ≡ after

is_new : (left_out : Bool) (name : List ℕ) (line : ℕ) (before after : NameSet) → new_name left_out name line before ≡ Ok after → (left_out ≡ false) × IsNew name before after
unfolding new_name
is_new left_out name line before after e =
    let fresh = past_fault (contains before name) (fault_in line Twice) (if left_out then Err (fault_in line LeftOut) else Ok (insert before name)) e in
    let there = past_fault left_out (fault_in line LeftOut) (Ok (insert before name)) fresh.1 in
    (there.0, record { fresh = fresh.0; added = ok_same there.1 })

stays_seen : (name : List ℕ) (before after : NameSet) → IsNew name before after → (other : List ℕ) → contains before other ≡ true → contains after other ≡ true
stays_seen name before after new other h =
    subst (λ s. contains s other ≡ true) new.added (contains-insert nat_list_cmp_total before name other ∙ or_right (eq_by_cmp (slice_cmp nat_cmp) other name) (contains before other) h)

is_seen : (name : List ℕ) (before after : NameSet) → IsNew name before after → contains after name ≡ true
is_seen name before after new =
    subst (λ s. contains s name ≡ true) new.added (contains-insert nat_list_cmp_total before name name ∙ or_left (eq_by_cmp (slice_cmp nat_cmp) name name) (contains before name) (ap is_eq (tied_itself nat_list_cmp_total name)))

stay_seen : (name : List ℕ) (before after : NameSet) → IsNew name before after → (names : List (List ℕ)) → list_all (contains before) names ≡ true → list_all (contains after) names ≡ true
stay_seen name before after new [] h = refl
stay_seen name before after new (n ∷ names) h =
    let both = and_parts (contains before n) (list_all (contains before) names) h in
    and_from (contains after n) (list_all (contains after) names) (stays_seen name before after new n both.0) (stay_seen name before after new names both.1)

other_name : (seen : NameSet) (n name : List ℕ) → contains seen n ≡ true → contains seen name ≡ false → bytes_eq n name ≡ false
other_name seen n name there none = false_from_ne_true (bytes_eq n name) (λ same. true≢false (sym there ∙ ap (contains seen) ((bytes_eq-Decides n name).0 same) ∙ none))

one_none : (a b : Bool) → a ≡ false → b ≡ false → (a || b) ≡ false
one_none a b e f = rw (e, f) refl

not_among : (n name : List ℕ) (names : List (List ℕ)) → list_any (bytes_eq n) names ≡ false → bytes_eq n name ≡ false → list_any (bytes_eq n) (names ++ name ∷ []) ≡ false
not_among n name [] h e = rw e refl
not_among n name (m ∷ names) h e =
    let both = or_parts (bytes_eq n m) (list_any (bytes_eq n) names) h in
    one_none (bytes_eq n m) (list_any (bytes_eq n) (names ++ name ∷ [])) both.0 (not_among n name names both.1 e)

distinct_more : (seen : NameSet) (name : List ℕ) (names : List (List ℕ)) → contains seen name ≡ false → list_all (contains seen) names ≡ true → are_distinct names ≡ true → are_distinct (names ++ name ∷ []) ≡ true
distinct_more seen name [] none there once = refl
distinct_more seen name (n ∷ names) none there once =
    let both = and_parts (contains seen n) (list_all (contains seen) names) there in
    let apart = and_parts (not (list_any (bytes_eq n) names)) (are_distinct names) once in
    let alone = not_among n name names (not-true (list_any (bytes_eq n) names) apart.0) (other_name seen n name both.0 none) in
    and_from (not (list_any (bytes_eq n) (names ++ name ∷ []))) (are_distinct (names ++ name ∷ [])) (ap not alone) (distinct_more seen name names none both.1 apart.1)

-- a name is seen, and nothing is kept
nothing_kept : (name : List ℕ) (b : PrimProperties) (after : NameSet) → IsNew name b.properties after → IsBody b → IsBody (record b { properties = after })
nothing_kept name b after new h = record { used = h.used; once = h.once; seen = stay_seen name b.properties after new (names_of b.values) h.seen }

-- a name is seen, and its property is kept
one_kept : (name : List ℕ) (v : RawValue) (b : PrimProperties) (after : NameSet) → IsNew name b.properties after → is_property (record { name = name; value = v }) ≡ true → IsBody b
    → IsBody (with_value (record b { properties = after }) (record { name = name; value = v }))
one_kept name v b after new form h =
    let p : Property = record { name = name; value = v } in
    let names : names_of (b.values ++ p ∷ []) ≡ names_of b.values ++ name ∷ [] = map-append (λ q. q.name) b.values (p ∷ []) in
    record {
      used = list_all-append is_property b.values (p ∷ []) ∙ and_from (list_all is_property b.values) (is_property p && true) h.used (and_from (is_property p) true form refl);
      once = ap are_distinct names ∙ distinct_more b.properties name (names_of b.values) new.fresh h.seen h.once;
      seen = ap (list_all (contains after)) names ∙ list_all-append (contains after) (names_of b.values) (name ∷ []) ∙ and_from (list_all (contains after) (names_of b.values)) (contains after name && true) (stay_seen name b.properties after new (names_of b.values) h.seen) (and_from (contains after name) true (is_seen name b.properties after new) refl);
    }

-- a body of properties so far, with the tokens after it
abbrev Good : PrimProperties × Tokens → Type 0
Good q = IsBody q.0

targets_kept : (used : Bool) (name : List ℕ) (b : PrimProperties) (after : NameSet) (ts : Tokens) → IsNew name b.properties after
    → (used ≡ true → is_used (attribute_kind_of name) ≡ false) → (used ≡ true → is_target_name name ≡ true) → IsBody b
    → Leaves Good (relation_value used name (record b { properties = after }) ts)
unfolding relation_value
targets_kept used name b after ts new unused target h =
    on_test Good (used && is Equals ts) _ _
    (λ both. on_then (λ t. is_list is_below_root t.0 ≡ true) Good (targets (rest ts)) _ (λ t e. targets_are (rest ts) t.0 t.1 e)
    (λ t form. on_ok Good (_, t.1) (kept (and_parts used (is Equals ts) both).0 t.0 form)))
    (λ none. on_then Whatever Good (some_value ts) _ (on_any (some_value ts)) (λ u _. on_ok Good (_, u) (nothing_kept name b after new h)))
  where
    kept : used ≡ true → (ps : List (List (List ℕ))) → is_list is_below_root ps ≡ true → IsBody (with_value (record b { properties = after }) (record { name = name; value = Paths ps }))
    kept some ps form = one_kept name (Paths ps) b after new (relation_is (attribute_kind_of name) name ps (unused some) (target some) form) h

right_name : (used listed : Bool) (name : List ℕ) → (used && is_misnamed_relation listed name) ≡ false → (used && is_target_name name) ≡ true → is_used (attribute_kind_of name) ≡ false
right_name true listed name h t = (or_parts (is_used (attribute_kind_of name)) (listed && is_target_name name) h).0
right_name false listed name h t = absurd (cc)

relation_keeps : (rule : PropertyRule) (listed : Bool) (b : PrimProperties) (ts : Tokens) → IsBody b → Leaves Good (relation rule listed b ts)
unfolding relation
relation_keeps rule listed b ts h =
    on_then Whatever Good (pname ts) _ (on_any (pname ts)) (λ p _.
    on_then (λ s. ((is_for_use rule && is_misnamed_relation listed p.0.name) ≡ false) × IsNew p.0.name b.properties s) Good (new_name (is_for_use rule && is_misnamed_relation listed p.0.name) p.0.name p.0.line b.properties) _
    (is_new (is_for_use rule && is_misnamed_relation listed p.0.name) p.0.name p.0.line b.properties) (λ s new.
    on_then Whatever Good (before_value rule p.1) _ (on_any (before_value rule p.1)) (λ u _.
    on_then Good Good (relation_value (is_for_use rule && is_target_name p.0.name) p.0.name (record b { properties = s }) u) _
    (targets_kept (is_for_use rule && is_target_name p.0.name) p.0.name b s u new.1 (right_name (is_for_use rule) listed p.0.name new.0) (λ t. (and_parts (is_for_use rule) (is_target_name p.0.name) t).1) h) (λ r good.
    on_then Whatever Good (metadata r.1) _ (on_any (metadata r.1)) (λ end _.
    on_ok Good (r.0, end) good)))))

owned : (rule : PropertyRule) (name : List ℕ) (role : AttributeKind) → own_role rule name ≡ Some role → attribute_kind_of name ≡ Some role
owned Any name role e = absurd (cc)
owned Used name role e = e
owned Assigned name role e = e

plain_kept : (rule : PropertyRule) (role : Option AttributeKind) (name : List ℕ) (b : PrimProperties) (after : NameSet) (ts : Tokens) → IsNew name b.properties after
    → own_role rule name ≡ role → IsBody b → Leaves Good (plain_value role name (record b { properties = after }) ts)
plain_kept rule None name b after ts new is_role h = on_then Whatever Good (some_value ts) _ (on_any (some_value ts)) (λ u _. on_ok Good (_, u) (nothing_kept name b after new h))
plain_kept rule (Some role) name b after ts new is_role h = on_either Good (is Equals ts) _ _
    (on_then (λ v. has_form role v.0 ≡ true) Good (used_value role (rest ts)) _ (λ v e. used_value_is role (rest ts) v.0 v.1 e)
    (λ v form. on_ok Good (_, v.1) (one_kept name v.0 b after new (attribute_is (attribute_kind_of name) role name v.0 (owned rule name role is_role) form) h)))
    (on_ok Good (_, ts) (nothing_kept name b after new h))

tail_kept : (tail : Tail) (rule : PropertyRule) (left_out : Bool) (p : PropertyName) (b : PrimProperties) (after : NameSet) (us ts : Tokens) → IsBody b
    → new_attribute tail left_out p b.properties us ≡ Ok after → Leaves Good (tail_value tail (own_role rule p.name) p.name (record b { properties = after }) ts)
tail_kept Plain rule left_out p b after us ts h n = plain_kept rule (own_role rule p.name) p.name b after ts (is_new left_out p.name p.line b.properties after n).1 refl h
tail_kept Connect rule left_out p b after us ts h n = on_then Whatever Good (some_value ts) _ (on_any (some_value ts))
    (λ u _. on_ok Good (_, u) (nothing_kept (with_tail Connect p.name) b after (is_new left_out (with_tail Connect p.name) p.line b.properties after n).1 h))
tail_kept Samples rule left_out p b after us ts h n = on_then Whatever Good (samples_value ts) _ (on_any (samples_value ts))
    (λ u _. on_ok Good (_, u) (nothing_kept (with_tail Samples p.name) b after (is_new left_out (with_tail Samples p.name) p.line b.properties after n).1 h))
tail_kept Other rule left_out p b after us ts h n = on_fault Good (fault_at ts Syntax)

after_keeps : (rule : PropertyRule) (header : AttributeHeader) (p : PropertyName) (b : PrimProperties) (ts : Tokens) → IsBody b → Leaves Good (after_pname rule header p b ts)
unfolding after_pname
after_keeps rule header p b ts h =
    on_then (λ s. new_attribute (tail_at ts).0 (is_left_out rule p.name header (tail_at ts).0) p b.properties (tail_at ts).1 ≡ Ok s) Good (new_attribute (tail_at ts).0 (is_left_out rule p.name header (tail_at ts).0) p b.properties (tail_at ts).1) _ (λ s e. e) (λ s new.
    on_then Whatever Good (before_value rule (tail_at ts).1) _ (on_any (before_value rule (tail_at ts).1)) (λ u _.
    on_then Good Good (tail_value (tail_at ts).0 (own_role rule p.name) p.name (record b { properties = s }) u) _
    (tail_kept (tail_at ts).0 rule (is_left_out rule p.name header (tail_at ts).0) p b s (tail_at ts).1 u h new) (λ r good.
    on_then Whatever Good (metadata r.1) _ (on_any (metadata r.1)) (λ end _.
    on_ok Good (r.0, end) good))))

attribute_keeps : (rule : PropertyRule) (listed : Bool) (b : PrimProperties) (ts : Tokens) → IsBody b → Leaves Good (attribute rule listed b ts)
unfolding attribute
attribute_keeps rule listed b ts h =
    on_then Whatever Good (own_type ts) _ (on_any (own_type ts)) (λ t _.
    on_then Whatever Good (pname t.1) _ (on_any (pname t.1)) (λ p _.
    after_keeps rule (record { listed = listed; word = t.0.0; brackets = t.0.1 }) p.0 b p.1 h))

either_keeps : (rule : PropertyRule) (listed : Bool) (b : PrimProperties) (ts : Tokens) → IsBody b → Leaves Good (relation_or_attribute rule listed b ts)
unfolding relation_or_attribute
either_keeps rule listed b ts h = on_either Good (is_word (codes "rel") ts) _ _ (relation_keeps rule listed b (rest ts) h) (attribute_keeps rule listed b ts h)

-- a property that is read in a prim keeps what holds of those before
pub property_keeps : (rule : PropertyRule) (b : PrimProperties) (ts : Tokens) (r : PrimProperties) (u : Tokens) → IsBody b → property rule b ts ≡ Ok (r, u) → IsBody r
unfolding property
property_keeps rule b ts r u h e = reads (r, u) e
  where
    reads : Leaves Good (property rule b ts)
    reads = on_then Whatever Good (list_op ts) _ (on_any (list_op ts)) (λ l _. either_keeps rule l.0 b (past_modifiers l.1) h)
