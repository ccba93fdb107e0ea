-- The paths that a reader may answer are not the root.
use Rattle.std.proofs.Common.{◌≡◌, ℕ, inl, inr, true, not, nat_lt, if◌then◌else◌, List, [], ◌∷◌, length, drop, count_by, Ok, Err, refl, ap, subst, codes, arith}
use Rattle.std.proofs.lemmas.Bool.{lt-ltb}
use Rattle.std.proofs.lemmas.List.Splits.{length-slice_split}
use Rattle.hd_path.specs.Parsing.{is_slash}
use Rattle.hd_lexer.specs.declared.lexer.Kind.TheVariants.{PathText}
use Rattle.hd_layer.specs.declared.fault.LayerWhy.TheVariants.{Syntax, LeftOut, Limit}
use Rattle.hd_layer.specs.declared.limits.Which.TheVariants.{Depth, Name}
use Rattle.hd_layer.specs.Limits.{limit_of}
use Rattle.hd_lexer.specs.Lexing.{Tokens}
use Rattle.hd_usda.specs.reading.Cursor.{is, is_word, rest, text, line_of, fault_in, fault_at, take}
use Rattle.hd_usda.specs.used.Elements.{list_of}
use Rattle.hd_usda.specs.used.Targets.{is_prim_path, has_long, names_of, path_in, target, one_target, in_list, targets}
use Rattle.hd_layer.specs.WellFormed.{is_below_root, is_list}
use Rattle.hd_usda.proofs.Answering.{answered, ok_same, past_fault, past_test, either}
use Rattle.hd_usda.proofs.WellFormedLists.{Checks, list_is, are_list}

path_is : (line : ℕ) (text : List ℕ) (names : List (List ℕ)) → path_in line text ≡ Ok names → is_below_root names ≡ true
path_is line text names e =
    let prim = past_fault (not (is_prim_path text)) (fault_in line LeftOut) (if nat_lt (limit_of Depth) (count_by is_slash text) then Err (fault_in line (Limit Depth)) else (if has_long text then Err (fault_in line (Limit Name)) else Ok (names_of text))) e in
    let deep = past_fault (nat_lt (limit_of Depth) (count_by is_slash text)) (fault_in line (Limit Depth)) (if has_long text then Err (fault_in line (Limit Name)) else Ok (names_of text)) prim.1 in
    let long = past_fault (has_long text) (fault_in line (Limit Name)) (Ok (names_of text)) deep.1 in
    let size = length-slice_split is_slash (drop 1 text) in
    subst (λ ns. is_below_root ns ≡ true) (ok_same long.1) (lt-ltb 0 (length (names_of text)) (omega (arith, size)))

target_is : (ts : Tokens) (p : List (List ℕ)) (u : Tokens) → target ts ≡ Ok (p, u) → is_below_root p ≡ true
unfolding target
target_is ts p u e =
    let a = answered (take PathText ts) _ e in
    let b = answered (path_in (line_of ts) (text ts)) _ a.after in
    subst (λ q. is_below_root q ≡ true) (ap (λ q. q.0) (ok_same b.after)) (path_is (line_of ts) (text ts) b.got b.first)

target_begins : (ts : Tokens) (p : List (List ℕ)) (u : Tokens) → target ts ≡ Ok (p, u) → is PathText ts ≡ true
unfolding target take
target_begins ts p u e = let a = answered (take PathText ts) _ e in (past_test (is PathText ts) (Ok (rest ts)) (fault_at ts Syntax) a.first).0

checks : Checks in_list is_below_root is_below_root
checks = record { starts = target_is; goes_on = target_is; begins = target_begins }

pub targets_are : (ts : Tokens) (ps : List (List (List ℕ))) (u : Tokens) → targets ts ≡ Ok (ps, u) → is_list is_below_root ps ≡ true
unfolding targets one_target
targets_are ts ps u e = elim (either (is_word (codes "None") ts) (Ok ([], rest ts)) (if is PathText ts then one_target ts else list_of in_list ts) e) [
  | inl none ↦ subst (λ q. is_list is_below_root q ≡ true) (ap (λ q. q.0) (ok_same none.1)) refl
  | inr some ↦ elim (either (is PathText ts) (one_target ts) (list_of in_list ts) some.1) [
    | inl one ↦ (
        let a = answered (target ts) (λ path. Ok (path.0 ∷ [], path.1)) one.1 in
        let is_one : is_list is_below_root (a.got.0 ∷ []) ≡ true = rw (target_is ts a.got.0 a.got.1 a.first) refl in
        subst (λ q. is_list is_below_root q ≡ true) (ap (λ q. q.0) (ok_same a.after)) is_one)
    | inr more ↦ are_list is_below_root ps (list_is in_list is_below_root is_below_root checks ts (ps, u) more.1)
  ]
]
