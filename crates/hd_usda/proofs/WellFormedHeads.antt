-- What is before the items of a prim is well formed.
use Rattle.std.proofs.Common.{◌≡◌, ℕ, ◌+◌, ◌<◌, Bool, true, false, ◌&&◌, not, ◌==◌, nat_lt, nat_le, List, [], length, bytes_eq, Ok, refl, sym}
use Rattle.std.proofs.lemmas.Bool.{and_from, or_right, ltb-false, leb-false, le-leb}
use Rattle.hd_path.specs.Names.{is_identifier}
use Rattle.hd_lexer.specs.declared.lexer.Kind.TheVariants.{Word, Text, OpenCurly}
use Rattle.hd_layer.specs.declared.fault.LayerWhy.TheVariants.{Syntax, Limit}
use Rattle.hd_layer.specs.declared.limits.Which.TheVariants.{Prims, Depth, Name}
use Rattle.hd_layer.specs.Limits.{limit_of}
use Rattle.hd_lexer.specs.Lexing.{Tokens}
use Rattle.hd_usda.specs.reading.Cursor.{is, rest, text, line_of, fault_in, fault_at, take as take_token}
use Rattle.hd_usda.specs.grammar.Metadata.{metadata}
use Rattle.hd_usda.specs.grammar.NameSet.{NameSet, new_name}
use Rattle.hd_usda.specs.grammar.Prims.{prim_type, is_name, next_count, Named, prim_name, PrimHeader, prim_header}
use Rattle.hd_layer.specs.WellFormed.{is_prim_name, is_kind}
use Rattle.hd_usda.proofs.Answering.{ok_same, past_fault, Leaves, Whatever, on_then, on_either, on_test, on_ok, on_fault, on_any}
use Rattle.hd_usda.proofs.WordTokens.{Worded, word_is_identifier}

short_name : (name : List ℕ) → is_identifier name ≡ true → nat_lt (limit_of Name) (length name) ≡ false → is_prim_name name ≡ true
short_name name identifier short = and_from (is_identifier name) (nat_le (length name) (limit_of Name)) identifier (le-leb (length name) (limit_of Name) (ltb-false (limit_of Name) (length name) short))

type_is : (ts : Tokens) → Worded ts → Leaves (λ k. is_kind k.0 ≡ true) (prim_type ts)
unfolding prim_type
type_is ts w =
    on_test (λ k. is_kind k.0 ≡ true) (is Word ts) _ _
    (λ word. on_test (λ k. is_kind k.0 ≡ true) (nat_lt (limit_of Name) (length (text ts))) _ _ (λ long. on_fault (λ k. is_kind k.0 ≡ true) (fault_at ts (Limit Name)))
    (λ short. on_ok (λ k. is_kind k.0 ≡ true) (text ts, rest ts) (or_right (bytes_eq (text ts) []) (is_prim_name (text ts)) (short_name (text ts) (word_is_identifier ts w word) short))))
    (λ none. on_ok (λ k. is_kind k.0 ≡ true) ([], ts) refl)

-- the number of prims, with one more where it counts
pub record IsCounted (counts : Bool) (count n : ℕ) : Type 0 where
  pub counted : counts ≡ true → (n ≡ count + 1) × (count < 65536)
  pub same : counts ≡ false → count ≡ n

count_is : (counts : Bool) (line count : ℕ) → Leaves (IsCounted counts count) (next_count counts line count)
count_is true line count n e =
    let room = past_fault (nat_le (limit_of Prims) count) (fault_in line (Limit Prims)) (Ok (count + 1)) e in
    record { counted = λ _. (sym (ok_same room.1), leb-false (limit_of Prims) count room.0); same = λ never. absurd (cc) }
count_is false line count n e = record { counted = λ never. absurd (cc); same = λ _. ok_same e }

-- the number that is beside a name
abbrev IsNamed : Bool → ℕ → Named × Tokens → Type 0
IsNamed counts count n = IsCounted counts count n.0.count

name_is : (room : ℕ) (counts : Bool) (count : ℕ) (names : NameSet) (ts : Tokens) → Leaves (IsNamed counts count) (prim_name room counts count names ts)
unfolding prim_name is_name
name_is room counts count names ts =
    on_test (IsNamed counts count) (not (is Text ts && is_identifier (text ts))) _ _ (λ no_name. on_fault (IsNamed counts count) (fault_at ts Syntax)) (λ named.
    on_either (IsNamed counts count) (room == 0) _ _ (on_fault (IsNamed counts count) (fault_at ts (Limit Depth)))
    (on_test (IsNamed counts count) (nat_lt (limit_of Name) (length (text ts))) _ _ (λ long. on_fault (IsNamed counts count) (fault_at ts (Limit Name))) (λ short.
    on_then (IsCounted counts count) (IsNamed counts count) (next_count counts (line_of ts) count) _ (count_is counts (line_of ts) count) (λ n number.
    on_then Whatever (IsNamed counts count) (new_name false (text ts) (line_of ts) names) _ (on_any (new_name false (text ts) (line_of ts) names)) (λ seen _.
    on_ok (IsNamed counts count) (record { name = text ts; names = seen; count = n }, rest ts) number)))))

-- the number among what is before the items of a prim
abbrev pub IsHead : Bool → ℕ → PrimHeader × Tokens → Type 0
IsHead counts count h = IsCounted counts count h.0.named.count

pub head_is : (room : ℕ) (counts : Bool) (count : ℕ) (names : NameSet) (ts : Tokens) → Leaves (IsHead counts count) (prim_header room counts count names ts)
unfolding prim_header
head_is room counts count names ts =
    on_then Whatever (IsHead counts count) (prim_type ts) _ (on_any (prim_type ts)) (λ k _.
    on_then (IsNamed counts count) (IsHead counts count) (prim_name room counts count names k.1) _ (name_is room counts count names k.1) (λ n named.
    on_then Whatever (IsHead counts count) (metadata n.1) _ (on_any (metadata n.1)) (λ u _.
    on_then Whatever (IsHead counts count) (take_token OpenCurly u) _ (on_any (take_token OpenCurly u)) (λ v _.
    on_ok (IsHead counts count) (record { kind = k.0; named = n.0 }, v) named))))

abbrev pub HasType : PrimHeader × Tokens → Type 0
HasType h = is_kind h.0.kind ≡ true

pub head_type : (room : ℕ) (counts : Bool) (count : ℕ) (names : NameSet) (ts : Tokens) → Worded ts → Leaves HasType (prim_header room counts count names ts)
unfolding prim_header
head_type room counts count names ts w =
    on_then (λ k. is_kind k.0 ≡ true) HasType (prim_type ts) _ (type_is ts w) (λ k typed.
    on_then Whatever HasType (prim_name room counts count names k.1) _ (on_any (prim_name room counts count names k.1)) (λ n _.
    on_then Whatever HasType (metadata n.1) _ (on_any (metadata n.1)) (λ u _.
    on_then Whatever HasType (take_token OpenCurly u) _ (on_any (take_token OpenCurly u)) (λ v _.
    on_ok HasType (record { kind = k.0; named = n.0 }, v) typed))))
