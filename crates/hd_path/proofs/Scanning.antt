-- One step of a scan: what the front of the rest says of the names that are left.
use Rattle.std.proofs.Common.{◌≡◌, ◌≢◌, ℕ, suc, ◌+◌, ◌<◌, ◌≤◌, Bool, true, false, cond, List, [], ◌∷◌, length, get_or, drop, refl, sym, ap, ◌∙◌, subst, arith, Result, Ok, Err, Some, None}
use Rattle.std.proofs.lemmas.Bool.{false≢true}
use Rattle.std.proofs.lemmas.Bool.Decides.{nat_tests}
use Rattle.std.specs.List.{prefix_len}
use Rattle.std.specs.Prelude.{nat_lt, ◌==◌}
use Rattle.std.specs.Result.{result_err}
use Rattle.hd_path.specs.Paths.{Path}
use Rattle.hd_path.specs.declared.fault.PathFault.{PathFault}
use Rattle.hd_path.specs.declared.fault.PathFault.TheVariants.{Syntax, TooDeep, NameTooLong}
use Rattle.hd_path.specs.Names.{Name, is_letter, is_word, identifier_len}
use Rattle.hd_path.specs.Parsing.{is_slash, pieces, name_at, before_names, names_at}
use Rattle.hd_path.proofs.Bytes.{words_all, words_plain}
use Rattle.hd_path.proofs.Slashes.{is_slash_is, pieces_plain}

-- what is before the first slash
abbrev pub first_piece : List ℕ → List ℕ
first_piece [] = []
first_piece (b ∷ bs) = cond (is_slash b) [] (b ∷ first_piece bs)

pieces_head : (rest : List ℕ) → (others : List Name) × (pieces rest ≡ first_piece rest ∷ others)
pieces_head [] = ([], refl)
pieces_head (b ∷ bs) = by_slash (is_slash b) refl (pieces_head bs)
  where
    by_slash : (s : Bool) → is_slash b ≡ s → ((others : List Name) × (pieces bs ≡ first_piece bs ∷ others)) → (others : List Name) × (pieces (b ∷ bs) ≡ first_piece (b ∷ bs) ∷ others)
    by_slash true e rest = (pieces bs, rw e refl)
    by_slash false e rest = (rest.0, rw (e, rest.1) refl)

slash_no_word : (b : ℕ) → is_slash b ≡ true → (is_word b ≡ false) × (is_letter b ≡ false)
slash_no_word b h = let P : ℕ → Type 0 = λ c. (is_word c ≡ false) × (is_letter c ≡ false) in subst P (sym (is_slash_is b h)) (refl, refl)

-- no name goes on over a slash
prefix_len-first_piece : (rest : List ℕ) → prefix_len is_word (first_piece rest) ≡ prefix_len is_word rest
prefix_len-first_piece [] = refl
prefix_len-first_piece (b ∷ bs) = by_slash (is_slash b) refl (prefix_len-first_piece bs)
  where
    by_slash : (s : Bool) → is_slash b ≡ s → prefix_len is_word (first_piece bs) ≡ prefix_len is_word bs → prefix_len is_word (first_piece (b ∷ bs)) ≡ prefix_len is_word (b ∷ bs)
    by_slash true e rest = let w = (slash_no_word b e).0 in rw (e, w) refl
    by_slash false e rest = rw (e, rest) refl

identifier_len-first_piece : (rest : List ℕ) → identifier_len (first_piece rest) ≡ identifier_len rest
identifier_len-first_piece [] = refl
identifier_len-first_piece (b ∷ bs) = by_slash (is_slash b) refl (prefix_len-first_piece bs)
  where
    by_slash : (s : Bool) → is_slash b ≡ s → prefix_len is_word (first_piece bs) ≡ prefix_len is_word bs → identifier_len (first_piece (b ∷ bs)) ≡ identifier_len (b ∷ bs)
    by_slash true e rest = let l = (slash_no_word b e).1 in rw (e, l) refl
    by_slash false e rest = rw (e, rest) refl

identifier_len-some : (rest : List ℕ) → 0 < identifier_len rest → identifier_len rest ≡ prefix_len is_word rest
identifier_len-some [] h = refl
identifier_len-some (b ∷ bs) h = by_letter (is_letter b) refl
  where
    by_letter : (l : Bool) → is_letter b ≡ l → identifier_len (b ∷ bs) ≡ prefix_len is_word (b ∷ bs)
    by_letter true e = rw e refl
    by_letter false e = let z : 0 < 0 = rw e at h in absurd (omega arith)

no_slash : (b : ℕ) → b ≢ 47 → is_slash b ≡ false
no_slash b h = grind (arith, nat_tests)

a_slash : (b : ℕ) → b ≡ 47 → is_slash b ≡ true
a_slash b h = grind (arith, nat_tests)

one-add : (n : ℕ) → 1 + n ≡ suc n
one-add n = omega arith

-- the piece goes on after the words where no slash follows them
goes_on : (rest : List ℕ) → prefix_len is_word rest < length rest → is_slash (get_or rest (prefix_len is_word rest) 0) ≡ false → prefix_len is_word rest < length (first_piece rest)
goes_on [] h s = absurd (omega arith)
goes_on (b ∷ bs) h s = by_slash (is_slash b) refl (is_word b) refl (goes_on bs)
  where
    by_slash : (t : Bool) → is_slash b ≡ t → (w : Bool) → is_word b ≡ w
        → (prefix_len is_word bs < length bs → is_slash (get_or bs (prefix_len is_word bs) 0) ≡ false → prefix_len is_word bs < length (first_piece bs))
        → prefix_len is_word (b ∷ bs) < length (first_piece (b ∷ bs))
    by_slash true e w f rest = let z = (slash_no_word b e).0 in let s2 : is_slash b ≡ false = rw z at s in absurd (false≢true (sym s2 ∙ e))
    by_slash false e true f rest =
        let h2 : 1 + prefix_len is_word bs < length (b ∷ bs) = rw f at h in
        let s2 : is_slash (get_or (b ∷ bs) (1 + prefix_len is_word bs) 0) ≡ false = rw f at s in
        let s3 : is_slash (get_or bs (prefix_len is_word bs) 0) ≡ false = rw (one-add (prefix_len is_word bs)) at s2 in
        let more = rest (omega arith) s3 in
        rw (e, f) (omega arith)
    by_slash false e false f rest = rw (e, f) (omega arith)

-- where a slash follows the words, they are the piece
record IsCut (rest : List ℕ) (len : ℕ) : Type 0 where
  size : length (first_piece rest) ≡ len
  parts : pieces rest ≡ first_piece rest ∷ pieces (drop (suc len) rest)

is_cut : (rest : List ℕ) → prefix_len is_word rest < length rest → is_slash (get_or rest (prefix_len is_word rest) 0) ≡ true → IsCut rest (prefix_len is_word rest)
is_cut [] h s = absurd (omega arith)
is_cut (b ∷ bs) h s = by_slash (is_slash b) refl (is_word b) refl (is_cut bs)
  where
    by_slash : (t : Bool) → is_slash b ≡ t → (w : Bool) → is_word b ≡ w
        → (prefix_len is_word bs < length bs → is_slash (get_or bs (prefix_len is_word bs) 0) ≡ true → IsCut bs (prefix_len is_word bs))
        → IsCut (b ∷ bs) (prefix_len is_word (b ∷ bs))
    by_slash true e w f rest = let z = (slash_no_word b e).0 in rw z (record { size = rw e refl; parts = rw e refl })
    by_slash false e true f rest =
        let h2 : 1 + prefix_len is_word bs < length (b ∷ bs) = rw f at h in
        let s2 : is_slash (get_or (b ∷ bs) (1 + prefix_len is_word bs) 0) ≡ true = rw f at s in
        let s3 : is_slash (get_or bs (prefix_len is_word bs) 0) ≡ true = rw (one-add (prefix_len is_word bs)) at s2 in
        let more = rest (omega arith) s3 in
        rw (f, one-add (prefix_len is_word bs)) (record { size = rw e (omega (arith, more.size)); parts = rw (e, more.parts) refl })
    by_slash false e false f rest = let s2 : is_slash b ≡ true = rw f at s in absurd (false≢true (sym e ∙ s2))

fails : (place before : ℕ) (rest : List ℕ) (fault : PathFault) → name_at place before (first_piece rest) ≡ Err fault → result_err (names_at place before (pieces rest)) ≡ Some fault
fails place before rest fault h = let head = pieces_head rest in rw (head.1, h) refl

err_after : (name : List ℕ) (others : Result Path PathFault) → result_err (before_names (Ok name) others) ≡ result_err others
err_after name (Ok names) = refl
err_after name (Err fault) = refl

module _ {T : Type 0} (len before size : ℕ) (a b c d e : T) where
  abbrev choice : T
  choice = cond (len == 0) a (cond (before == 32) b (cond (nat_lt 64 len) c (cond (nat_lt len size) d e)))

  choose_none : len ≡ 0 → choice ≡ a
  choose_none h = grind (arith, nat_tests)

  choose_deep : 0 < len → before ≡ 32 → choice ≡ b
  choose_deep some h = grind (arith, nat_tests)

  choose_long : 0 < len → before < 32 → 64 < len → choice ≡ c
  choose_long some shallow h = grind (arith, nat_tests)

  choose_stop : 0 < len → before < 32 → len ≤ 64 → len < size → choice ≡ d
  choose_stop some shallow short h = grind (arith, nat_tests)

  choose_name : 0 < len → before < 32 → len ≤ 64 → size ≤ len → choice ≡ e
  choose_name some shallow short h = grind (arith, nat_tests)

module _ (place before : ℕ) (rest : List ℕ) where
  here : identifier_len (first_piece rest) ≡ identifier_len rest
  here = identifier_len-first_piece rest

  pub fails_none : identifier_len rest ≡ 0 → result_err (names_at place before (pieces rest)) ≡ Some (Syntax place)
  fails_none h = fails place before rest _ (choose_none (identifier_len (first_piece rest)) before (length (first_piece rest)) _ _ _ _ _ (here ∙ h))

  pub fails_deep : 0 < identifier_len rest → before ≡ 32 → result_err (names_at place before (pieces rest)) ≡ Some TooDeep
  fails_deep some h = let i = here in fails place before rest _ (choose_deep (identifier_len (first_piece rest)) before (length (first_piece rest)) _ _ _ _ _ (omega arith) h)

  pub fails_long : 0 < identifier_len rest → before < 32 → 64 < identifier_len rest → result_err (names_at place before (pieces rest)) ≡ Some NameTooLong
  fails_long some shallow h = let i = here in fails place before rest _ (choose_long (identifier_len (first_piece rest)) before (length (first_piece rest)) _ _ _ _ _ (omega arith) shallow (omega arith))

  pub fails_stop : 0 < identifier_len rest → before < 32 → identifier_len rest ≤ 64 → identifier_len rest < length rest → get_or rest (identifier_len rest) 0 ≢ 47
      → result_err (names_at place before (pieces rest)) ≡ Some (Syntax (place + identifier_len rest))
  fails_stop some shallow short within stops =
      let i = here in
      let w = identifier_len-some rest some in
      let other : is_slash (get_or rest (identifier_len rest) 0) ≡ false = no_slash _ stops in
      let more : prefix_len is_word rest < length (first_piece rest) = goes_on rest (omega arith) (rw w at other) in
      fails place before rest _ (choose_stop (identifier_len (first_piece rest)) before (length (first_piece rest)) _ _ _ _ _ (omega arith) shallow (omega arith) (omega arith)
      ∙ ap (λ n. Err (Syntax (place + n))) i)

  pub passes_last : 0 < identifier_len rest → before < 32 → identifier_len rest ≤ 64 → identifier_len rest ≡ length rest → result_err (names_at place before (pieces rest)) ≡ None
  passes_last some shallow short whole =
      let w = identifier_len-some rest some in
      let one : pieces rest ≡ rest ∷ [] = pieces_plain rest (words_plain rest (words_all rest (omega arith))) in
      let name : name_at place before rest ≡ Ok rest = choose_name (identifier_len rest) before (length rest) _ _ _ _ _ some shallow short (omega arith) in
      rw (one, name) refl

  pub passes_more : 0 < identifier_len rest → before < 32 → identifier_len rest ≤ 64 → identifier_len rest < length rest → get_or rest (identifier_len rest) 0 ≡ 47
      → result_err (names_at place before (pieces rest)) ≡ result_err (names_at (place + identifier_len rest + 1) (before + 1) (pieces (drop (identifier_len rest + 1) rest)))
  passes_more some shallow short within slash =
      let i = here in
      let w = identifier_len-some rest some in
      let comes : is_slash (get_or rest (identifier_len rest) 0) ≡ true = a_slash _ slash in
      let cut : IsCut rest (prefix_len is_word rest) = is_cut rest (omega arith) (rw w at comes) in
      let size : length (first_piece rest) ≡ identifier_len rest = cut.size ∙ sym w in
      let next : suc (prefix_len is_word rest) ≡ identifier_len rest + 1 = omega arith in
      let name : name_at place before (first_piece rest) ≡ Ok (first_piece rest) = choose_name (identifier_len (first_piece rest)) before (length (first_piece rest)) _ _ _ _ _ (omega arith) shallow (omega arith) (omega arith) in
      rw (cut.parts, name) (err_after (first_piece rest) _
      ∙ ap (λ n. result_err (names_at (place + n + 1) (before + 1) (pieces (drop (suc (prefix_len is_word rest)) rest)))) size
      ∙ ap (λ n. result_err (names_at (place + identifier_len rest + 1) (before + 1) (pieces (drop n rest)))) next)

  pub passes_more_at : (len : ℕ) → len ≡ identifier_len rest → 0 < len → before < 32 → len ≤ 64 → len < length rest → get_or rest len 0 ≡ 47
      → result_err (names_at place before (pieces rest)) ≡ result_err (names_at (place + len + 1) (before + 1) (pieces (drop (len + 1) rest)))
  passes_more_at len e some shallow short within slash = rw e (passes_more (omega arith) shallow (omega arith) (omega arith) (rw e at slash))

  pub fails_stop_at : (len : ℕ) → len ≡ identifier_len rest → 0 < len → before < 32 → len ≤ 64 → len < length rest → get_or rest len 0 ≢ 47
      → result_err (names_at place before (pieces rest)) ≡ Some (Syntax (place + len))
  fails_stop_at len e some shallow short within stops = rw e (fails_stop (omega arith) shallow (omega arith) (omega arith) (rw e at stops))

pub ruleset scan_steps = (fails_none, fails_deep, fails_long, passes_last)
