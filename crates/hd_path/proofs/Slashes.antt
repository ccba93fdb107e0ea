-- A text in which each name is after a slash, and the names of it.
use Rattle.std.proofs.Common.{◌≡◌, ℕ, ◌<◌, Bool, true, false, cond, List, [], ◌∷◌, ◌++◌, length, drop, refl, sym, ap, arith}
use Rattle.std.proofs.lemmas.List.{append-nil}
use Rattle.std.proofs.lemmas.List.Splits.{length-slice_split}
use Rattle.std.proofs.lemmas.List.Concat.{flat_map-append}
use Rattle.std.proofs.lemmas.List.Sums.{sum_by-cons}
use Rattle.std.proofs.lemmas.Bool.Decides.{nat_tests}
use Rattle.std.specs.List.{onto_first, count_by}
use Rattle.hd_path.specs.Names.{Name}
use Rattle.hd_path.specs.Parsing.{is_slash, pieces}
use Rattle.hd_path.specs.Paths.{Path, names_text}
use Rattle.hd_path.specs.Texts.{names_in}
use Rattle.hd_path.specs.inner.TextPrefixes.{AtSlash}
use Rattle.hd_path.proofs.Bytes.{Plain, AllPlain, above_no_slash}

pub slashed-AtSlash : (names : Path) → AtSlash (names_text names)
slashed-AtSlash [] = tt
slashed-AtSlash (name ∷ names) = refl

pub slashed-append : (p q : Path) → names_text (p ++ q) ≡ names_text p ++ names_text q
slashed-append p q = flat_map-append (λ name. 47 ∷ name) p q

pub pieces_plain : (name : List ℕ) → Plain name → pieces name ≡ name ∷ []
pieces_plain [] h = refl
pieces_plain (b ∷ bs) h = let e : is_slash b ≡ false = above_no_slash b h.0 in rw (e, pieces_plain bs h.2) refl

onto_first-append : (b : ℕ) (ps qs : List Name) → 0 < length ps → onto_first b (ps ++ qs) ≡ onto_first b ps ++ qs
onto_first-append b [] qs h = absurd (omega arith)
onto_first-append b (p ∷ ps) qs h = refl

pub pieces-append_slash : (xs ys : List ℕ) → pieces (xs ++ 47 ∷ ys) ≡ pieces xs ++ pieces ys
pieces-append_slash [] ys = refl
pieces-append_slash (x ∷ xs) ys = by_slash (is_slash x) refl (pieces-append_slash xs ys)
  where
    by_slash : (b : Bool) → is_slash x ≡ b → pieces (xs ++ 47 ∷ ys) ≡ pieces xs ++ pieces ys → pieces (x ∷ (xs ++ 47 ∷ ys)) ≡ pieces (x ∷ xs) ++ pieces ys
    by_slash true e rest = rw (e, rest) refl
    by_slash false e rest = rw (e, rest) (onto_first-append x (pieces xs) (pieces ys) (omega (arith, length-slice_split is_slash xs)))

pub pieces-slashed : (name : List ℕ) (names : Path) → Plain name → AllPlain names → pieces (name ++ names_text names) ≡ name ∷ names
pieces-slashed name [] n ns = rw append-nil (pieces_plain name n)
pieces-slashed name (next ∷ names) n ns =
    rw (pieces-append_slash name (next ++ names_text names), pieces_plain name n, pieces-slashed next names ns.0 ns.1) refl

-- the names of the text are the names
pub names_in-slashed : (names : Path) → AllPlain names → names_in (names_text names) ≡ names
names_in-slashed [] h = refl
names_in-slashed (name ∷ names) h = pieces-slashed name names h.0 h.1

slashed-onto_first : (b : ℕ) (ps : List Name) → names_text (onto_first b ps) ≡ 47 ∷ b ∷ drop 1 (names_text ps)
slashed-onto_first b [] = refl
slashed-onto_first b (p ∷ ps) = refl

pub is_slash_is : (b : ℕ) → is_slash b ≡ true → b ≡ 47
is_slash_is b h = grind (arith, nat_tests)

-- the pieces, each after a slash, are the text after a slash
pub slashed-pieces : (text : List ℕ) → names_text (pieces text) ≡ 47 ∷ text
slashed-pieces [] = refl
slashed-pieces (b ∷ bs) = by_slash (is_slash b) refl (slashed-pieces bs)
  where
    by_slash : (s : Bool) → is_slash b ≡ s → names_text (pieces bs) ≡ 47 ∷ bs → names_text (pieces (b ∷ bs)) ≡ 47 ∷ b ∷ bs
    by_slash true e rest = rw (e, rest) (ap (λ c. 47 ∷ c ∷ bs) (sym (is_slash_is b e)))
    by_slash false e rest = rw (e, slashed-onto_first b (pieces bs), rest) refl

-- a text that goes on at a slash
pub names_in-append : (text rest : List ℕ) → 0 < length text → AtSlash rest → names_in (text ++ rest) ≡ names_in text ++ names_in rest
names_in-append [] rest some h = absurd (omega arith)
names_in-append (b ∷ bs) [] some h = rw (append-nil bs, append-nil (pieces bs)) refl
names_in-append (b ∷ bs) (r ∷ rest) some h = rw h (pieces-append_slash bs rest)

-- the number of slashes is that of the names
pub count-names_in : (names : Path) → AllPlain names → count_by is_slash (names_text names) ≡ length names
count-names_in [] h = refl
count-names_in (name ∷ names) h =
    let s = sum_by-cons (λ b. cond (is_slash b) 1 0) 47 (name ++ names_text names) in
    let e = length-slice_split is_slash (name ++ names_text names) in
    let p = ap length (pieces-slashed name names h.0 h.1) in
    omega arith
