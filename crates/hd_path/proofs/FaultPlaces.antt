-- The place of a fault is the first at which no text goes on.
use Rattle.std.proofs.Common.{◌≡◌, ◌⊎◌, inl, inr, ℕ, suc, ◌+◌, ◌<◌, ◌≤◌, Bool, true, false, ◌||◌, cond, List, [], ◌∷◌, ◌++◌, length, take, refl, sym, ap, ◌∙◌, subst, arith, append_assoc, Result, Ok, Err}
use Rattle.std.proofs.Math.Seq.{take-append_seam, take-append-add}
use Rattle.std.proofs.lemmas.Bool.{false≢true}
use Rattle.std.proofs.lemmas.List.{append-nil}
use Rattle.std.proofs.lemmas.Bool.Decides.{nat_tests}
use Rattle.std.proofs.lemmas.List.Elements.{All-head, All-tail, All-nil, All-cons}
use Rattle.std.specs.List.{list_all, prefix_len, onto_first}
use Rattle.std.specs.Prelude.{All, nat_lt, ◌==◌}
use Rattle.hd_path.specs.declared.fault.PathFault.{PathFault}
use Rattle.hd_path.specs.declared.fault.PathFault.TheVariants.{Syntax, TooDeep, NameTooLong}
use Rattle.hd_path.specs.Laws.{StopsAt, IsTextOfNames, FaultIsWhereNoPathGoesOn, ChildFaultIsWhereNoNameGoesOn}
use Rattle.hd_path.specs.Names.{Name, is_letter, is_word, is_identifier, identifier_len, IsName}
use Rattle.hd_path.specs.Parsing.{is_slash, pieces, name_at, before_names, names_at}
use Rattle.hd_path.specs.Paths.{Path, names_text, path_text}
use Rattle.hd_path.proofs.Bytes.{first_of_and, second_of_and, letter_is_word, all_words, identifier_len-append}
use Rattle.hd_path.proofs.Slashes.{is_slash_is, slashed-pieces}
use Rattle.hd_path.proofs.Spelling.{name_at-Ok}

-- nothing, or what begins with no byte of a name
abbrev NoWord : List ℕ → Type 0
NoWord [] = Unit {0}
NoWord (b ∷ bs) = is_word b ≡ false

abbrev NoLetter : List ℕ → Type 0
NoLetter [] = Unit {0}
NoLetter (b ∷ bs) = is_letter b ≡ false

abbrev NoSlash : List ℕ → Type 0
NoSlash [] = Unit {0}
NoSlash (b ∷ bs) = (is_slash b ≡ false) × NoSlash bs

abbrev AllNoSlash : List Name → Type 0
AllNoSlash [] = Unit {0}
AllNoSlash (p ∷ ps) = NoSlash p × AllNoSlash ps

onto_first-no_slash : (b : ℕ) (ps : List Name) → is_slash b ≡ false → AllNoSlash ps → AllNoSlash (onto_first b ps)
onto_first-no_slash b [] e h = ((e, tt), tt)
onto_first-no_slash b (p ∷ ps) e h = ((e, h.0), h.1)

pieces-no_slash : (text : List ℕ) → AllNoSlash (pieces text)
pieces-no_slash [] = (tt, tt)
pieces-no_slash (b ∷ bs) = by_slash (is_slash b) refl (pieces-no_slash bs)
  where
    by_slash : (s : Bool) → is_slash b ≡ s → AllNoSlash (pieces bs) → AllNoSlash (pieces (b ∷ bs))
    by_slash true e h = rw e (tt, h)
    by_slash false e h = rw e (onto_first-no_slash b (pieces bs) e h)

no_slash-rest : (xs ys : List ℕ) → NoSlash (xs ++ ys) → NoSlash ys
no_slash-rest [] ys h = h
no_slash-rest (x ∷ xs) ys h = no_slash-rest xs ys h.1

slashed-NoWord : (names : Path) → NoWord (names_text names)
slashed-NoWord [] = tt
slashed-NoWord (name ∷ names) = refl

-- the bytes of a name at the front, and the rest
record Cut (text : List ℕ) : Type 0 where
  words : List ℕ
  rest : List ℕ
  all : list_all is_word words ≡ true
  stop : NoWord rest
  whole : words ++ rest ≡ text

cut : (text : List ℕ) → Cut text
cut [] = record { words = []; rest = []; all = refl; stop = tt; whole = refl }
cut (b ∷ bs) = by_word (is_word b) refl (cut bs)
  where
    by_word : (w : Bool) → is_word b ≡ w → Cut bs → Cut (b ∷ bs)
    by_word true e c = record { words = b ∷ c.words; rest = c.rest; all = rw (e, c.all) refl; stop = c.stop; whole = ap (λ t. b ∷ t) c.whole }
    by_word false e c = record { words = []; rest = b ∷ bs; all = refl; stop = e; whole = refl }

-- one more than these bytes and so many
abbrev reach : List ℕ → ℕ → ℕ
reach [] k = suc k
reach (x ∷ xs) k = suc (reach xs k)

reach-is : (xs : List ℕ) (k : ℕ) → reach xs k ≡ suc (length xs + k)
reach-is [] k = omega arith
reach-is (x ∷ xs) k = let r = reach-is xs k in omega arith

other_words : (b c : ℕ) → is_word b ≡ true → is_word c ≡ false → b ≡ c → ⊥
other_words b c w n e = false≢true (sym n ∙ subst (λ d. is_word d ≡ true) e w)

-- where the texts begin alike, the names at their fronts are the same
same_words : (x y n t : List ℕ) (k : ℕ) → list_all is_word x ≡ true → NoWord y → list_all is_word n ≡ true → NoWord t
    → take (reach x k) (x ++ y) ≡ take (reach x k) (n ++ t) → (n ≡ x) × (take (suc k) y ≡ take (suc k) t)
same_words [] y [] t k ax sy an st e = (refl, e)
same_words [] [] (b ∷ n) t k ax sy an st e = absurd (cc)
same_words [] (c ∷ y) (b ∷ n) t k ax sy an st e = absurd (other_words b c (first_of_and (is_word b) (list_all is_word n) an) sy cc)
same_words (a ∷ x) y [] [] k ax sy an st e = absurd (cc)
same_words (a ∷ x) y [] (c ∷ t) k ax sy an st e = absurd (other_words a c (first_of_and (is_word a) (list_all is_word x) ax) st cc)
same_words (a ∷ x) y (b ∷ n) t k ax sy an st e =
    let same = same_words x y n t k (second_of_and (is_word a) (list_all is_word x) ax) sy (second_of_and (is_word b) (list_all is_word n) an) st cc in
    let first : b ≡ a = cc in
    let others : n ≡ x = same.0 in
    (cc, same.1)

-- no identifier begins like a text that does not begin with a letter
no_letter : (text name rest : List ℕ) → NoLetter text → is_identifier name ≡ true → take 1 text ≡ take 1 (name ++ rest) → ⊥
no_letter text [] rest s h e = false≢true h
no_letter [] (c ∷ n) rest s h e = cc
no_letter (b ∷ bs) (c ∷ n) rest s h e =
    let same : c ≡ b = cc in
    false≢true (sym s ∙ subst (λ d. is_letter d ≡ true) same (first_of_and (is_letter c) (list_all is_word n) h))

-- a name, and other names that are each after a slash
record IsTail (text : List ℕ) : Type 0 where
  name : Name
  names : Path
  first : IsName name
  others : All IsName names
  same : name ++ names_text names ≡ text

fault_none : (text : List ℕ) → NoLetter text → StopsAt IsTail text 0
fault_none text s = record {
  begins = (65 ∷ [], record { name = 65 ∷ []; names = []; first = record { identifier = refl; short = omega arith }; others = All-nil IsName; same = refl }, refl);
  no_further = λ b. let tail = b.1 in no_letter text tail.name (names_text tail.names) s tail.first.identifier (b.2 ∙ ap (take 1) (sym tail.same));
}

other_than_slash : (c : ℕ) (y : List ℕ) (names : Path) → is_slash c ≡ false → take 1 (c ∷ y) ≡ take 1 (names_text names) → ⊥
other_than_slash c y [] s e = cc
other_than_slash c y (name ∷ names) s e = let same : 47 ≡ c = cc in false≢true (sym s ∙ subst (λ d. is_slash d ≡ true) same refl)

module _ (x : Name) (named : IsName x) where
  -- the texts from the name of the other on
  after_name : (y whole : List ℕ) (k m : ℕ) → m ≡ suc (length x + k) → NoWord y → (tail : IsTail whole) → take m (x ++ y) ≡ take m whole → take (suc k) y ≡ take (suc k) (names_text tail.names)
  after_name y whole k m size s tail e =
      let r : m ≡ reach x k = size ∙ sym (reach-is x k) in
      let alike : take (reach x k) (x ++ y) ≡ take (reach x k) (tail.name ++ names_text tail.names) =
      ap (λ n. take n (x ++ y)) (sym r) ∙ e ∙ ap (take m) (sym tail.same) ∙ ap (λ n. take n (tail.name ++ names_text tail.names)) r in
      (same_words x y tail.name (names_text tail.names) k (all_words x named.identifier) s (all_words tail.name tail.first.identifier) (slashed-NoWord tail.names) alike).1

  fault_here : (c : ℕ) (y : List ℕ) → is_word c ≡ false → is_slash c ≡ false → StopsAt IsTail (x ++ c ∷ y) (length x)
  fault_here c y w s = record {
    begins = (x ++ [], record { name = x; names = []; first = named; others = All-nil IsName; same = refl }, take-append_seam x (c ∷ y) ∙ sym (take-append_seam x []));
    no_further = λ b. let tail = b.1 in other_than_slash c y tail.names s (after_name (c ∷ y) b.0 0 (suc (length x)) (omega arith) w tail b.2);
  }

  not_more : (text : List ℕ) (k : ℕ) → StopsAt IsTail text k → (names : Path) → All IsName names → take (suc (suc k)) (47 ∷ text) ≡ take (suc (suc k)) (names_text names) → ⊥
  not_more text k f [] h e = cc
  not_more text k f (name ∷ names) h e =
      f.no_further (name ++ names_text names, record { name = name; names = names; first = All-head IsName name names h; others = All-tail IsName name names h; same = refl }, cc)

  fault_more : (text : List ℕ) (k : ℕ) → StopsAt IsTail text k → StopsAt IsTail (x ++ 47 ∷ text) (length x + suc k)
  fault_more text k f =
      let tail = f.begins.1 in
      record {
        begins = (
          x ++ 47 ∷ f.begins.0,
          record { name = x; names = tail.name ∷ tail.names; first = named; others = All-cons IsName tail.name tail.names tail.first tail.others; same = ap (λ (t : List ℕ). x ++ 47 ∷ t) tail.same },
          take-append-add x (47 ∷ text) (suc k) ∙ ap (λ (t : List ℕ). x ++ 47 ∷ t) f.begins.2 ∙ sym (take-append-add x (47 ∷ f.begins.0) (suc k)),
        );
        no_further = λ b. let other = b.1 in not_more text k f other.names other.others (after_name (47 ∷ text) b.0 (suc k) (suc (length x + suc k)) (omega arith) refl other b.2);
      }

-- the choices at which name_at found no name
faulted : (w x y z : Bool) (place len at : ℕ) (piece : List ℕ)
    → cond w (Err (Syntax place)) (cond x (Err TooDeep) (cond y (Err NameTooLong) (cond z (Err (Syntax (place + len))) (Ok piece)))) ≡ Err (Syntax at)
    → ((w ≡ true) × (place ≡ at)) ⊎ ((w ≡ false) × (y ≡ false) × (z ≡ true) × (place + len ≡ at))
faulted true x y z place len at piece h = inl (refl, cc)
faulted false true y z place len at piece h = absurd (cc)
faulted false false true z place len at piece h = absurd (cc)
faulted false false false true place len at piece h = inr (refl, refl, refl, cc)
faulted false false false false place len at piece h = absurd (cc)

is_none : (len : ℕ) → (len == 0) ≡ true → len ≡ 0
is_none len h = grind (arith, nat_tests)

is_some : (len : ℕ) → (len == 0) ≡ false → 0 < len
is_some len h = grind (arith, nat_tests)

is_short : (len : ℕ) → nat_lt 64 len ≡ false → len ≤ 64
is_short len h = grind (arith, nat_tests)

is_less : (len size : ℕ) → nat_lt len size ≡ true → len < size
is_less len size h = grind (arith, nat_tests)

no_letter-len : (text : List ℕ) → identifier_len text ≡ 0 → NoLetter text
no_letter-len [] h = tt
no_letter-len (b ∷ bs) h = by_letter (is_letter b) refl
  where
    by_letter : (l : Bool) → is_letter b ≡ l → is_letter b ≡ false
    by_letter true e = let z : 1 + prefix_len is_word bs ≡ 0 = rw e at h in absurd (omega arith)
    by_letter false e = e

no_letter-append : (text : List ℕ) (names : Path) → NoLetter text → NoLetter (text ++ names_text names)
no_letter-append [] [] h = tt
no_letter-append [] (name ∷ names) h = refl
no_letter-append (b ∷ bs) names h = h

prefix_len-NoWord : (y : List ℕ) → NoWord y → prefix_len is_word y ≡ 0
prefix_len-NoWord [] h = refl
prefix_len-NoWord (b ∷ bs) h = rw h refl

identifier_at_front : (x y : List ℕ) → list_all is_word x ≡ true → NoWord y → 0 < identifier_len (x ++ y) → is_identifier x ≡ true
identifier_at_front [] [] a s h = absurd (omega arith)
identifier_at_front [] (b ∷ y) a s h = by_letter (is_letter b) refl
  where
    by_letter : (l : Bool) → is_letter b ≡ l → false ≡ true
    by_letter true e = sym s ∙ letter_is_word b e
    by_letter false e = let z : 0 < 0 = rw e at h in absurd (omega arith)
identifier_at_front (b ∷ x) y a s h = by_letter (is_letter b) refl
  where
    by_letter : (l : Bool) → is_letter b ≡ l → is_identifier (b ∷ x) ≡ true
    by_letter true e = let r = second_of_and (is_word b) (list_all is_word x) a in rw (e, r) refl
    by_letter false e = let z : 0 < 0 = rw e at h in absurd (omega arith)

-- an identifier, the byte after it and the rest
record Stops (text : List ℕ) : Type 0 where
  name : List ℕ
  byte : ℕ
  rest : List ℕ
  identifier : is_identifier name ≡ true
  size : length name ≡ identifier_len text
  stop : is_word byte ≡ false
  whole : name ++ byte ∷ rest ≡ text

stops_at : (text : List ℕ) → 0 < identifier_len text → identifier_len text < length text → Stops text
stops_at text some more = let c = cut text in by_rest c.words c.rest c.all c.stop c.whole
  where
    by_rest : (x y : List ℕ) → list_all is_word x ≡ true → NoWord y → x ++ y ≡ text → Stops text
    by_rest x y a s w = at_rest y s w (identifier_at_front x y a s (subst (λ (t : List ℕ). 0 < identifier_len t) (sym w) some))
      where
        at_rest : (y : List ℕ) → NoWord y → x ++ y ≡ text → is_identifier x ≡ true → Stops text
        at_rest [] s w i =
            let len : identifier_len (x ++ []) ≡ length x = identifier_len-append x [] i refl in
            let l2 : identifier_len text ≡ length x = ap identifier_len (sym w) ∙ len in
            let size : length x ≡ length text = ap length (sym (append-nil x) ∙ w) in
            absurd (omega arith)
        at_rest (b ∷ y) s w i =
            record { name = x; byte = b; rest = y; identifier = i; size = sym (identifier_len-append x (b ∷ y) i (prefix_len-NoWord (b ∷ y) s)) ∙ ap identifier_len w; stop = s; whole = w }

-- where the fault is, from the place where the names begin
abbrev FaultFrom : ℕ → ℕ → List ℕ → Type 0
FaultFrom place at text = (k : ℕ) × (place + k ≡ at) × StopsAt IsTail text k

fault_in_name : (place before at : ℕ) (p : List ℕ) (ps : Path) → NoSlash p → name_at place before p ≡ Err (Syntax at) → FaultFrom place at (p ++ names_text ps)
fault_in_name place before at p ps free h =
    by_fault (faulted (identifier_len p == 0) (before == 32) (nat_lt 64 (identifier_len p)) (nat_lt (identifier_len p) (length p)) place (identifier_len p) at p h)
  where
    by_fault : ((identifier_len p == 0) ≡ true) × (place ≡ at) ⊎ (((identifier_len p == 0) ≡ false) × (nat_lt 64 (identifier_len p) ≡ false) × (nat_lt (identifier_len p) (length p) ≡ true) × (place + identifier_len p ≡ at))
        → FaultFrom place at (p ++ names_text ps)
    by_fault (inl f) = (0, omega (arith, f.1), fault_none (p ++ names_text ps) (no_letter-append p ps (no_letter-len p (is_none (identifier_len p) f.0))))
    by_fault (inr f) =
        let short : identifier_len p ≤ 64 = is_short (identifier_len p) f.1 in
        let s = stops_at p (is_some (identifier_len p) f.0) (is_less (identifier_len p) (length p) f.2) in
        let no = no_slash-rest s.name (s.byte ∷ s.rest) (subst NoSlash (sym s.whole) free) in
        let size : length s.name ≡ identifier_len p = s.size in
        let place_is : place + identifier_len p ≡ at = f.3 in
        let fault = fault_here s.name (record { identifier = s.identifier; short = omega arith }) s.byte (s.rest ++ names_text ps) s.stop no.0 in
        let whole : s.name ++ s.byte ∷ (s.rest ++ names_text ps) ≡ p ++ names_text ps = sym (append_assoc s.name (s.byte ∷ s.rest) (names_text ps)) ∙ ap (λ (t : List ℕ). t ++ names_text ps) s.whole in
        (length s.name, omega arith, subst (λ (t : List ℕ). StopsAt IsTail t (length s.name)) whole fault)

fault_in_names : (place before at : ℕ) (p : List ℕ) (ps : Path) → before ≤ 32 → NoSlash p → AllNoSlash ps → names_at place before (p ∷ ps) ≡ Err (Syntax at) → FaultFrom place at (p ++ names_text ps)
fault_in_names place before at p [] shallow free others h = by_name (name_at place before p) refl h
  where
    by_name : (r : Result (List ℕ) PathFault) → name_at place before p ≡ r → before_names r (Ok []) ≡ Err (Syntax at) → FaultFrom place at (p ++ [])
    by_name (Err fault) e o = fault_in_name place before at p [] free (e ∙ (let f : fault ≡ Syntax at = cc in ap Err f))
    by_name (Ok name) e o = absurd (cc)
fault_in_names place before at p (q ∷ qs) shallow free others h =
    by_name (name_at place before p) refl (names_at (place + length p + 1) (before + 1) (q ∷ qs)) refl h (fault_in_names (place + length p + 1) (before + 1) at q qs)
  where
    by_name : (r : Result Name PathFault) → name_at place before p ≡ r → (s : Result Path PathFault) → names_at (place + length p + 1) (before + 1) (q ∷ qs) ≡ s → before_names r s ≡ Err (Syntax at)
        → (before + 1 ≤ 32 → NoSlash q → AllNoSlash qs → names_at (place + length p + 1) (before + 1) (q ∷ qs) ≡ Err (Syntax at) → FaultFrom (place + length p + 1) at (q ++ names_text qs)) → FaultFrom place at (p ++ names_text (q ∷ qs))
    by_name (Err fault) e s g o rest = fault_in_name place before at p (q ∷ qs) free (e ∙ (let f : fault ≡ Syntax at = cc in ap Err f))
    by_name (Ok name) e (Ok names) g o rest = absurd (cc)
    by_name (Ok name) e (Err fault) g o rest =
        let ok = name_at-Ok place before p name shallow e in
        let f : fault ≡ Syntax at = cc in
        let more = rest (omega (arith, ok.2)) others.0 others.1 (g ∙ ap Err f) in
        (length p + suc more.0, omega (arith, more.1), fault_more p ok.1 (q ++ names_text qs) more.0 more.2)

-- no text of names begins without a slash
no_names : (text : List ℕ) (names : Path) → ((b : ℕ) → take 1 text ≡ b ∷ [] → is_slash b ≡ false) → take 1 text ≡ take 1 (path_text names) → ⊥
no_names text [] s e = false≢true (sym (s 47 e))
no_names text (name ∷ names) s e = false≢true (sym (s 47 e))

fault_at_start : (text : List ℕ) → ((b : ℕ) → take 1 text ≡ b ∷ [] → is_slash b ≡ false) → StopsAt IsTextOfNames text 0
fault_at_start text s = record {
  begins = (47 ∷ [], ([], All-nil IsName, refl), refl);
  no_further = λ b. no_names text b.1.0 s (b.2 ∙ ap (take 1) (sym b.1.2));
}

not_names : (c : ℕ) (rest : List ℕ) (k : ℕ) → StopsAt IsTail (c ∷ rest) k → (names : Path) → All IsName names → take (suc (suc k)) (47 ∷ c ∷ rest) ≡ take (suc (suc k)) (path_text names) → ⊥
not_names c rest k f [] h e = cc
not_names c rest k f (name ∷ names) h e =
    f.no_further (name ++ names_text names, record { name = name; names = names; first = All-head IsName name names h; others = All-tail IsName name names h; same = refl }, cc)

fault_after_slash : (c : ℕ) (rest : List ℕ) (k : ℕ) → StopsAt IsTail (c ∷ rest) k → StopsAt IsTextOfNames (47 ∷ c ∷ rest) (suc k)
fault_after_slash c rest k f =
    let tail = f.begins.1 in
    record {
      begins = (
        47 ∷ f.begins.0,
        (tail.name ∷ tail.names, All-cons IsName tail.name tail.names tail.first tail.others, ap (λ (t : List ℕ). 47 ∷ t) tail.same),
        ap (λ (t : List ℕ). 47 ∷ t) f.begins.2,
      );
      no_further = λ b. not_names c rest k f b.1.0 b.1.1 (b.2 ∙ ap (take (suc (suc k))) (sym b.1.2));
    }

pieces_fault : (parts : Path) (text : List ℕ) (at : ℕ) → AllNoSlash parts → names_text parts ≡ 47 ∷ text → names_at 1 0 parts ≡ Err (Syntax at) → FaultFrom 1 at text
pieces_fault [] text at free same h = absurd (cc)
pieces_fault (p ∷ ps) text at free same h =
    let t : p ++ names_text ps ≡ text = cc in
    subst (λ (u : List ℕ). FaultFrom 1 at u) t (fault_in_names 1 0 at p ps (omega arith) free.0 free.1 h)

not_slash : (b : ℕ) (rest : List ℕ) → is_slash b ≡ false → (c : ℕ) → take 1 (b ∷ rest) ≡ c ∷ [] → is_slash c ≡ false
not_slash b rest h c e = let same : b ≡ c = cc in subst (λ d. is_slash d ≡ false) same h

pub text_first_fault : FaultIsWhereNoPathGoesOn
text_first_fault [] at h = let zero : 0 ≡ at = cc in subst (λ n. StopsAt IsTextOfNames [] n) zero (fault_at_start [] (λ b e. absurd (cc)))
text_first_fault (b ∷ []) at h = by_slash (is_slash b) refl
  where
    by_slash : (s : Bool) → is_slash b ≡ s → StopsAt IsTextOfNames (b ∷ []) at
    by_slash true e = let o : Ok [] ≡ Err (Syntax at) = rw e at h in absurd (cc)
    by_slash false e = let o : Err (Syntax 0) ≡ Err (Syntax at) = rw e at h in let zero : 0 ≡ at = cc in subst (λ n. StopsAt IsTextOfNames (b ∷ []) n) zero (fault_at_start (b ∷ []) (not_slash b [] e))
text_first_fault (b ∷ c ∷ rest) at h = by_slash (is_slash b) refl
  where
    by_slash : (s : Bool) → is_slash b ≡ s → StopsAt IsTextOfNames (b ∷ c ∷ rest) at
    by_slash true e =
        let o : names_at 1 0 (pieces (c ∷ rest)) ≡ Err (Syntax at) = rw e at h in
        let f = pieces_fault (pieces (c ∷ rest)) (c ∷ rest) at (pieces-no_slash (c ∷ rest)) (slashed-pieces (c ∷ rest)) o in
        let place : suc f.0 ≡ at = omega (arith, f.1) in
        let P : ℕ → ℕ → Type 0 = λ d n. StopsAt IsTextOfNames (d ∷ c ∷ rest) n in
        subst (λ n. P b n) place (subst (λ d. P d (suc f.0)) (sym (is_slash_is b e)) (fault_after_slash c rest f.0 f.2))
    by_slash false e = let o : Err (Syntax 0) ≡ Err (Syntax at) = rw e at h in let zero : 0 ≡ at = cc in subst (λ n. StopsAt IsTextOfNames (b ∷ c ∷ rest) n) zero (fault_at_start (b ∷ c ∷ rest) (not_slash b (c ∷ rest) e))

abbrev Identifier : List ℕ → Type 0
Identifier whole = is_identifier whole ≡ true

identifier_none : (name : Name) → NoLetter name → StopsAt Identifier name 0
identifier_none name s = record {
  begins = (65 ∷ [], refl, refl);
  no_further = λ b. no_letter name b.0 [] s b.1 (b.2 ∙ ap (take 1) (sym (append-nil b.0)));
}

identifier_stops : (name : Name) → Stops name → StopsAt Identifier name (identifier_len name)
identifier_stops name s =
    subst (λ (t : List ℕ). StopsAt Identifier t (identifier_len name)) s.whole (subst (λ n. StopsAt Identifier (s.name ++ s.byte ∷ s.rest) n) s.size (record {
      begins = (s.name, s.identifier, take-append_seam s.name (s.byte ∷ s.rest) ∙ sym (take-append_seam s.name []) ∙ ap (take (length s.name)) (append-nil s.name));
      no_further = λ b. not_on b.0 b.1 b.2;
    }))
  where
    not_on : (whole : Name) → is_identifier whole ≡ true → take (suc (length s.name)) (s.name ++ s.byte ∷ s.rest) ≡ take (suc (length s.name)) whole → ⊥
    not_on whole i e =
        let r : suc (length s.name) ≡ reach s.name 0 = let q = reach-is s.name 0 in omega arith in
        let alike : take (reach s.name 0) (s.name ++ s.byte ∷ s.rest) ≡ take (reach s.name 0) (whole ++ []) =
        ap (λ n. take n (s.name ++ s.byte ∷ s.rest)) (sym r) ∙ e ∙ ap (take (suc (length s.name))) (sym (append-nil whole)) ∙ ap (λ n. take n (whole ++ [])) r in
        let same = same_words s.name (s.byte ∷ s.rest) whole [] 0 (all_words s.name s.identifier) s.stop (all_words whole i) tt alike in
        let none : take 1 (s.byte ∷ s.rest) ≡ [] = same.1 in
        cc

-- the choices at which no child was made
no_child : (w x y z : Bool) (len at : ℕ) (made : Path)
    → cond (w || x) (Err (Syntax len)) (cond y (Err NameTooLong) (cond z (Err TooDeep) (Ok made))) ≡ Err (Syntax at)
    → ((w ≡ true) ⊎ ((w ≡ false) × (x ≡ true))) × (len ≡ at)
no_child true x y z len at made h = (inl refl, cc)
no_child false true y z len at made h = (inr (refl, refl), cc)
no_child false false true z len at made h = absurd (cc)
no_child false false false true len at made h = absurd (cc)
no_child false false false false len at made h = absurd (cc)

pub child_first_fault : ChildFaultIsWhereNoNameGoesOn
child_first_fault path name at h =
    let f = no_child (identifier_len name == 0) (nat_lt (identifier_len name) (length name)) (nat_lt 64 (length name)) (length path == 32) (identifier_len name) at (path ++ name ∷ []) h in
    subst (λ n. StopsAt Identifier name n) f.1 (by_fault f.0)
  where
    by_fault : ((identifier_len name == 0) ≡ true) ⊎ (((identifier_len name == 0) ≡ false) × (nat_lt (identifier_len name) (length name) ≡ true)) → StopsAt Identifier name (identifier_len name)
    by_fault (inl none) =
        let zero : identifier_len name ≡ 0 = is_none (identifier_len name) none in
        subst (λ n. StopsAt Identifier name n) (sym zero) (identifier_none name (no_letter-len name zero))
    by_fault (inr f) = identifier_stops name (stops_at name (is_some (identifier_len name) f.0) (is_less (identifier_len name) (length name) f.1))
