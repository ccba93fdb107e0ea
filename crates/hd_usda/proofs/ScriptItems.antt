-- The property that a script spells is what the same tokens are as an item of a prim.
use Rattle.std.proofs.Common.{◌≡◌, ℕ, List, [], ◌∷◌, Bool, true, false, ◌&&◌, not, if◌then◌else◌, Option, None, Some, Result, Ok, Err, IfSome, IsTrue, refl, sym, ap, subst, ◌∙◌, codes}
use Rattle.std.proofs.lemmas.Bool.{and_parts, true≢false}
use Rattle.std.specs.List.{list_all}
use Rattle.hd_lexer.specs.declared.lexer.Kind.{Kind}
use Rattle.hd_lexer.specs.declared.lexer.Kind.TheVariants.{Semicolon, End}
use Rattle.hd_layer.specs.declared.fault.LayerWhy.TheVariants.{Syntax, LeftOut}
use Rattle.hd_layer.specs.declared.spec.Property.{Property}
use Rattle.hd_layer.specs.WellFormed.{is_property}
use Rattle.hd_lexer.specs.Lexing.{Tokens, tokens_from}
use Rattle.hd_usda.specs.declared.grammar.rule.PropertyRule.TheVariants.{Used, Assigned}
use Rattle.hd_usda.specs.reading.Cursor.{◌>>=◌, Fault, is, is_word, rest, kind, same_kind, fault_at, past_one}
use Rattle.hd_usda.specs.grammar.Kept.{PrimProperties, no_properties}
use Rattle.hd_usda.specs.grammar.Property.{property}
use Rattle.hd_usda.specs.grammar.Prims.{LayerBuilder, PrimScope, PrimForm, new_scope, is_prim, property_item, item}
use Rattle.hd_usda.specs.Statement.{ends, first_of, statement, on_one_line, reads_property}
use Rattle.hd_usda.specs.Laws.{item_values, values_of, after_property_name, has_equals, property_values, as_values}
use Rattle.hd_usda.proofs.Answering.{Answered, answered, past_fault, past_test, ok_same, no_answer}
use Rattle.hd_usda.proofs.WellFormedBodies.{IsBody, property_keeps}
use Rattle.hd_usda.proofs.ScriptNames.{prim_has_no_name, variant_set_has_no_name}
use Rattle.hd_usda.proofs.ScriptProperties.{Refused, Alike, property_alike, Single, property_single}

-- what a statement that is read says of the property in it
record Reads (ts : Tokens) (found : Option Property) : Type 0 where
  body : PrimProperties
  after : Tokens
  no_set : is_word (codes "variantSet") ts ≡ false
  reads : property Assigned no_properties ts ≡ Ok (body, after)
  at_end : is End after ≡ true
  first : first_of body.values ≡ found

statement_is : (ts : Tokens) (found : Option Property) → statement ts ≡ Ok found → Reads ts found
unfolding statement ends
statement_is ts found e =
    let plain = past_fault (is_word (codes "variantSet") ts) (fault_at ts LeftOut) _ e in
    let b = answered (property Assigned no_properties ts) _ plain.1 in
    let end = answered (if is End b.got.1 then Ok b.got.1 else Err (fault_at b.got.1 Syntax)) _ b.after in
    record {
      body = b.got.0;
      after = b.got.1;
      no_set = plain.0;
      reads = b.first;
      at_end = (past_test (is End b.got.1) (Ok b.got.1) (fault_at b.got.1 Syntax) end.first).0;
      first = ok_same end.after;
    }

not_refused : {A : Type 0} {o : Result A Fault} {x : A} → o ≡ Ok x → Refused o → ⊥
not_refused {A} {o} e refused = subst Refused e refused

-- a statement that is read has "=" after its name
reads_equals : (ts : Tokens) (found : Option Property) → Reads ts found → has_equals ts ≡ true
reads_equals ts found r = by_equals (has_equals ts) refl
  where
    by_equals : (c : Bool) → has_equals ts ≡ c → c ≡ true
    by_equals true e = refl
    by_equals false e = absurd (not_refused r.reads ((property_alike no_properties ts).1 e))

-- so it is no prim, and the same property of a prim
reads_no_prim : (ts : Tokens) (found : Option Property) → Reads ts found → is_prim ts ≡ false
reads_no_prim ts found r = by_prim (is_prim ts) refl
  where
    by_prim : (c : Bool) → is_prim ts ≡ c → c ≡ false
    by_prim true e = absurd (true≢false (sym (reads_equals ts found r) ∙ prim_has_no_name ts e))
    by_prim false e = refl

reads_used : (ts : Tokens) (found : Option Property) (r : Reads ts found) → property Used no_properties ts ≡ Ok (r.body, r.after)
reads_used ts found r = sym ((property_alike no_properties ts).0 (reads_equals ts found r)) ∙ r.reads

no_semicolon : (k : Kind) → same_kind k End ≡ true → same_kind k Semicolon ≡ false
no_semicolon Semicolon e = absurd (cc)
no_semicolon k e = refl

stays_at_end : (ts : Tokens) → is End ts ≡ true → past_one Semicolon ts ≡ ts
unfolding past_one is
stays_at_end ts e = rw (no_semicolon (kind ts) e) refl

ends_there : (ts : Tokens) → is End ts ≡ true → ends ts ≡ Ok ts
unfolding ends
ends_there ts e = rw e refl

-- a prim with the properties that an item leaves
abbrev with_body : LayerBuilder → PrimProperties × Tokens → Result (PrimScope × Tokens) Fault
with_body builder b = Ok (record (new_scope builder) { body = b.0 }, b.1)

abbrev with_semicolon : PrimScope × Tokens → Result (PrimScope × Tokens) Fault
with_semicolon r = Ok (r.0, past_one Semicolon r.1)

-- the values of a prim after its last item
abbrev last_values : PrimScope × Tokens → Result (List Property) Fault
last_values r = ends r.1 >>= λ u. Ok r.0.body.values

item_is_property : (form : PrimForm) (builder : LayerBuilder) (ts : Tokens) → is_word (codes "variantSet") ts ≡ false → is_prim ts ≡ false
    → item_values form builder ts ≡ (((property Used no_properties ts >>= with_body builder) >>= with_semicolon) >>= last_values)
unfolding item_values item property_item
item_is_property form builder ts no_set no_prim = rw (no_set, no_prim) refl

last_of : (builder : LayerBuilder) (o : Result (PrimProperties × Tokens) Fault) (body : PrimProperties) (after : Tokens) → o ≡ Ok (body, after) → is End after ≡ true
    → (((o >>= with_body builder) >>= with_semicolon) >>= last_values) ≡ Ok body.values
last_of builder o body after e end =
    subst (λ r. (((r >>= with_body builder) >>= with_semicolon) >>= last_values) ≡ Ok body.values) (sym e)
    (subst (λ u. (ends u >>= λ v. Ok body.values) ≡ Ok body.values) (sym (stays_at_end after end))
    (subst (λ r. (r >>= λ v. Ok body.values) ≡ Ok body.values) (sym (ends_there after end)) refl))

-- what a script reads is what was read on its line
on_line : {A : Type 0} (o : Result A Fault) (x : A) → on_one_line o ≡ Ok x → o ≡ Ok x
on_line (Ok y) x e = e
on_line (Err fault) x e = no_answer e

-- what a script spells is what its tokens are as an item
pub script_is_item : (text : List ℕ) (found : Option Property) → reads_property text ≡ Ok found → (form : PrimForm) (builder : LayerBuilder) → item_values form builder (tokens_from 1 text) ≡ Ok (values_of found)
unfolding reads_property
script_is_item text found e form builder =
    let ts : Tokens = tokens_from 1 text in
    let r : Reads ts found = statement_is ts found (on_line (statement ts) found e) in
    item_is_property form builder ts r.no_set (reads_no_prim ts found r)
    ∙ last_of builder (property Used no_properties ts) r.body r.after (reads_used ts found r) r.at_end
    ∙ ap Ok (sym (property_single Assigned ts (r.body, r.after) r.reads) ∙ ap values_of r.first)

pub script_has_value : (text : List ℕ) (found : Option Property) → reads_property text ≡ Ok found → IsTrue (has_equals (tokens_from 1 text))
unfolding reads_property
script_has_value text found e =
    let ts : Tokens = tokens_from 1 text in
    reads_equals ts found (statement_is ts found (on_line (statement ts) found e))

-- the end of a script, and of a property alone
same_ends : (o : Result (PrimProperties × Tokens) Fault) → ((b : PrimProperties × Tokens) → o ≡ Ok b → Single b)
    → as_values (o >>= λ b. ends b.1 >>= λ end. Ok (first_of b.0.values)) ≡ (o >>= λ b. ends b.1 >>= λ u. Ok b.0.values)
same_ends (Ok b) single = by_end (ends b.1)
  where
    by_end : (end : Result Tokens Fault) → as_values (end >>= λ u. Ok (first_of b.0.values)) ≡ (end >>= λ u. Ok b.0.values)
    by_end (Ok u) = ap Ok (single b refl)
    by_end (Err fault) = refl
same_ends (Err fault) single = refl

statement_same : (ts : Tokens) → has_equals ts ≡ true → as_values (statement ts) ≡ property_values ts
unfolding statement property_values
statement_same ts equals = by_set (is_word (codes "variantSet") ts) refl
  where
    by_set : (c : Bool) → is_word (codes "variantSet") ts ≡ c
        → as_values (if c then Err (fault_at ts LeftOut) else (property Assigned no_properties ts >>= λ b. ends b.1 >>= λ end. Ok (first_of b.0.values))) ≡ (property Used no_properties ts >>= λ b. ends b.1 >>= λ u. Ok b.0.values)
    by_set true e = absurd (true≢false (sym equals ∙ variant_set_has_no_name ts e))
    by_set false e =
        ap (λ o. as_values (o >>= λ b. ends b.1 >>= λ end. Ok (first_of b.0.values))) ((property_alike no_properties ts).0 equals)
        ∙ same_ends (property Used no_properties ts) (property_single Used ts)

pub script_is_property : (text : List ℕ) → IsTrue (has_equals (tokens_from 1 text)) → as_values (reads_property text) ≡ on_one_line (property_values (tokens_from 1 text))
unfolding reads_property
script_is_property text equals = line_of_values (statement (tokens_from 1 text)) ∙ ap on_one_line (statement_same (tokens_from 1 text) (is_true equals))
  where
    line_of_values : (o : Result (Option Property) Fault) → as_values (on_one_line o) ≡ on_one_line (as_values o)
    line_of_values (Ok p) = refl
    line_of_values (Err fault) = refl

    is_true : {c : Bool} → IsTrue c → c ≡ true
    is_true e = e

-- the property, where there is one, is well formed
abbrev pub IsProperty : Option Property → Type 0
IsProperty found = IfSome found (λ p. is_property p ≡ true)

first_is : (values : List Property) → list_all is_property values ≡ true → IsProperty (first_of values)
first_is [] h = tt
first_is (p ∷ ps) h = (and_parts (is_property p) (list_all is_property ps) h).0

-- a property that a text spells is well formed
pub statement_reads : (ts : Tokens) (found : Option Property) → statement ts ≡ Ok found → IsProperty found
statement_reads ts found e =
    let r : Reads ts found = statement_is ts found e in
    let body : IsBody r.body = property_keeps Assigned no_properties ts r.body r.after (record { used = refl; once = refl; seen = refl }) r.reads in
    subst IsProperty r.first (first_is r.body.values body.used)
