-- The values of used attributes that a reader may answer have the form of their role.
use Rattle.std.proofs.Common.{◌≡◌, ℕ, Bool, true, false, ◌&&◌, nat_le, ℤ, List, [], ◌∷◌, length, Result, Ok, refl, ap, subst, codes}
use Rattle.std.proofs.lemmas.Bool.{and_from, and_parts}
use Rattle.std.specs.List.{list_all}
use Rattle.hd_num.specs.declared.vector.Vec3.{Vec3}
use Rattle.hd_lexer.specs.declared.lexer.Kind.TheVariants.{Text}
use Rattle.hd_layer.specs.declared.fault.LayerWhy.TheVariants.{LeftOut}
use Rattle.hd_layer.specs.declared.limits.Which.TheVariants.{Elements}
use Rattle.hd_usda.specs.declared.used.numbers.NumberRule.TheVariants.{Any, Turn}
use Rattle.hd_tokens.specs.declared.properties.AttributeKind.{AttributeKind}
use Rattle.hd_tokens.specs.declared.properties.AttributeKind.TheVariants.{Points, Numbers, Colors, ByteColors, OpOrder, Visibility, Purpose, Vector, Angle, Angles, Transform, ByteColor}
use Rattle.hd_layer.specs.declared.spec.RawValue.{RawValue}
use Rattle.hd_layer.specs.declared.spec.RawValue.TheVariants as raw
use Rattle.hd_layer.specs.Limits.{limit_of}
use Rattle.hd_lexer.specs.Lexing.{Tokens}
use Rattle.hd_usda.specs.reading.Cursor.{Fault, is, is_word, text, fault_at}
use Rattle.hd_tokens.specs.Names.{is_any}
use Rattle.hd_tokens.specs.Properties.{visibilities, purposes, is_op_entry}
use Rattle.hd_usda.specs.used.Numbers.{need, number, triple}
use Rattle.hd_usda.specs.used.Elements.{list_of}
use Rattle.hd_usda.specs.used.Values.{numbers, triples, op_entry, op_entries, one_of, rows, single, whole, value_of, used_value}
use Rattle.hd_layer.specs.WellFormed.{is_small, is_quarters, each_of, is_list, is_single, are_op_entries, are_small_rows, has_form}
use Rattle.hd_usda.proofs.Answering.{answered, ok_same, past_fault, past_test}
use Rattle.hd_usda.proofs.WellFormedNumbers.{needed, number_begins, number_small, number_quarters, triple_begins, triple_each, rows_are}
use Rattle.hd_usda.proofs.WellFormedLists.{Checks, list_is, are_listed, are_list}

numbers_check : Checks numbers is_small is_small
numbers_check = record { starts = number_small Any; goes_on = number_small Any; begins = number_begins Any }

small_triple : (ts : Tokens) (v : Vec3) (u : Tokens) → triple Any ts ≡ Ok (v, u) → each_of is_small v ≡ true
small_triple = triple_each Any is_small (number_small Any)

triples_check : Checks triples (each_of is_small) (each_of is_small)
triples_check = record { starts = small_triple; goes_on = small_triple; begins = λ ts v u e. rw (triple_begins Any ts v u e) refl }

op_entry_is : (first : Bool) (ts : Tokens) (entry : List ℕ) (u : Tokens) → op_entry first ts ≡ Ok (entry, u) → is_op_entry first entry ≡ true
unfolding op_entry
op_entry_is first ts entry u e =
    let a = answered (need true Text ts) _ e in
    let b = past_test (is_op_entry first (text ts)) (Ok (text ts, a.got)) (fault_at ts LeftOut) a.after in
    subst (λ q. is_op_entry first q ≡ true) (ap (λ q. q.0) (ok_same b.1)) b.0

op_entry_begins : (ts : Tokens) (entry : List ℕ) (u : Tokens) → op_entry false ts ≡ Ok (entry, u) → is Text ts ≡ true
unfolding op_entry
op_entry_begins ts entry u e = let a = answered (need true Text ts) _ e in needed Text ts a.got a.first

entries_check : Checks op_entries (is_op_entry true) (is_op_entry false)
entries_check = record { starts = op_entry_is true; goes_on = op_entry_is false; begins = op_entry_begins }

entries_are : (xs : List (List ℕ)) → are_listed (is_op_entry true) (is_op_entry false) xs ≡ true → are_op_entries xs ≡ true
entries_are [] h = refl
entries_are (x ∷ xs) h =
    let size = and_parts (nat_le (length (x ∷ xs)) (limit_of Elements)) (is_op_entry true x && list_all (is_op_entry false) xs) h in
    let both = and_parts (is_op_entry true x) (list_all (is_op_entry false) xs) size.1 in
    and_from (nat_le (length (x ∷ xs)) (limit_of Elements) && is_op_entry true x) (list_all (is_op_entry false) xs) (and_from (nat_le (length (x ∷ xs)) (limit_of Elements)) (is_op_entry true x) size.0 both.0) both.1

one_of_is : (words : List (List ℕ)) (ts : Tokens) (word : List ℕ) (u : Tokens) → one_of words ts ≡ Ok (word, u) → is_any words word ≡ true
unfolding one_of
one_of_is words ts word u e =
    let a = answered (need true Text ts) _ e in
    let b = past_test (is_any words (text ts)) (Ok (text ts, a.got)) (fault_at ts LeftOut) a.after in
    subst (λ q. is_any words q ≡ true) (ap (λ q. q.0) (ok_same b.1)) b.0

-- what each answer of a form passes, a value of one such item does
single_is : {A : Type 0} (make : List A → RawValue) (form : Tokens → Result (A × Tokens) Fault) (test : A → Bool) (role : AttributeKind)
    → ((ts : Tokens) (x : A) (u : Tokens) → form ts ≡ Ok (x, u) → test x ≡ true)
    → ((x : A) → is_single test (x ∷ []) ≡ true → has_form role (make (x ∷ [])) ≡ true)
    → (ts : Tokens) (v : RawValue) (u : Tokens) → single make form ts ≡ Ok (v, u) → has_form role v ≡ true
single_is {A} make form test role passes gives ts v u e =
    let a = answered (form ts) (λ x. Ok (make (x.0 ∷ []), x.1)) e in
    let one : is_single test (a.got.0 ∷ []) ≡ true = and_from (test a.got.0) true (passes ts a.got.0 a.got.1 a.first) refl in
    subst (λ q. has_form role q ≡ true) (ap (λ q. q.0) (ok_same a.after)) (gives a.got.0 one)

whole_is : {A : Type 0} (make : A → RawValue) (form : Tokens → Result (A × Tokens) Fault) (test : A → Bool) (role : AttributeKind)
    → ((ts : Tokens) (x : A) (u : Tokens) → form ts ≡ Ok (x, u) → test x ≡ true)
    → ((x : A) → test x ≡ true → has_form role (make x) ≡ true)
    → (ts : Tokens) (v : RawValue) (u : Tokens) → whole make form ts ≡ Ok (v, u) → has_form role v ≡ true
whole_is {A} make form test role passes gives ts v u e =
    let a = answered (form ts) (λ x. Ok (make x.0, x.1)) e in
    subst (λ q. has_form role q ≡ true) (ap (λ q. q.0) (ok_same a.after)) (gives a.got.0 (passes ts a.got.0 a.got.1 a.first))

triples_are : (ts : Tokens) (xs : List Vec3) (u : Tokens) → list_of triples ts ≡ Ok (xs, u) → is_list (each_of is_small) xs ≡ true
triples_are ts xs u e = are_list (each_of is_small) xs (list_is triples (each_of is_small) (each_of is_small) triples_check ts (xs, u) e)

numbers_are : (ts : Tokens) (xs : List ℤ) (u : Tokens) → list_of numbers ts ≡ Ok (xs, u) → is_list is_small xs ≡ true
numbers_are ts xs u e = are_list is_small xs (list_is numbers is_small is_small numbers_check ts (xs, u) e)

order_is : (ts : Tokens) (xs : List (List ℕ)) (u : Tokens) → list_of op_entries ts ≡ Ok (xs, u) → are_op_entries xs ≡ true
order_is ts xs u e = entries_are xs (list_is op_entries (is_op_entry true) (is_op_entry false) entries_check ts (xs, u) e)

value_is : (role : AttributeKind) (ts : Tokens) (v : RawValue) (u : Tokens) → value_of role ts ≡ Ok (v, u) → has_form role v ≡ true
value_is Points = whole_is raw.Triples (list_of triples) (is_list (each_of is_small)) Points triples_are (λ x h. h)
value_is Numbers = whole_is raw.Numbers (list_of numbers) (is_list is_small) Numbers numbers_are (λ x h. h)
value_is Colors = whole_is raw.Triples (list_of triples) (is_list (each_of is_small)) Colors triples_are (λ x h. h)
value_is ByteColors = whole_is raw.Triples (list_of triples) (is_list (each_of is_small)) ByteColors triples_are (λ x h. h)
value_is OpOrder = whole_is raw.Words (list_of op_entries) are_op_entries OpOrder order_is (λ x h. h)
value_is Visibility = single_is raw.Words (one_of visibilities) (is_any visibilities) Visibility (one_of_is visibilities) (λ x h. h)
value_is Purpose = single_is raw.Words (one_of purposes) (is_any purposes) Purpose (one_of_is purposes) (λ x h. h)
value_is Vector = single_is raw.Triples (triple Any) (each_of is_small) Vector small_triple (λ x h. h)
value_is Angle = single_is raw.Numbers (number Turn) is_quarters Angle number_quarters (λ x h. h)
value_is Angles = single_is raw.Triples (triple Turn) (each_of is_quarters) Angles (triple_each Turn is_quarters number_quarters) (λ x h. h)
value_is Transform = whole_is raw.Matrix rows are_small_rows Transform rows_are (λ x h. h)
value_is ByteColor = single_is raw.Triples (triple Any) (each_of is_small) ByteColor small_triple (λ x h. h)

pub used_value_is : (role : AttributeKind) (ts : Tokens) (v : RawValue) (u : Tokens) → used_value role ts ≡ Ok (v, u) → has_form role v ≡ true
unfolding used_value
used_value_is role ts v u e = value_is role ts v u (past_fault (is_word (codes "None") ts) (fault_at ts LeftOut) (value_of role ts) e).1
