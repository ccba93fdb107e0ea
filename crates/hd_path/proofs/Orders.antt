-- The order name by name is that of the texts, since a slash is below each byte of a name.
use Rattle.std.proofs.Common.{◌≡◌, ℕ, ◌<◌, List, [], ◌∷◌, ◌++◌, length, refl, sym, ap, ◌∙◌, arith}
use Rattle.std.proofs.lemmas.Bool.Decides.{nat_tests}
use Rattle.std.specs.declared.cmp.Ordering.{Ordering}
use Rattle.std.specs.declared.cmp.Ordering.TheVariants.{Less, Equal, Greater}
use Rattle.std.specs.Ordering.{nat_cmp, ordering_then, is_eq}
use Rattle.std.specs.Cmp.Lexicographic.{slice_cmp, pointwise, texts_ties}
use Rattle.std.specs.Prelude.{nat_eq}
use Rattle.hd_path.specs.inner.Comparing.{names_ties}
use Rattle.hd_path.specs.Paths.{Path, names_text, path_text, IsPath}
use Rattle.hd_path.specs.inner.TextPrefixes.{AtSlash}
use Rattle.hd_path.specs.Laws.{OrderIsThatOfTexts}
use Rattle.hd_path.proofs.Bytes.{Plain, AllPlain, names_plain, name_not_empty}
use Rattle.hd_path.proofs.Slashes.{slashed-AtSlash}
use Rattle.std.proofs.lemmas.List.Elements.{All-head}
use Rattle.hd_path.specs.Names.{IsName}

below : (x y : ℕ) → x < y → nat_cmp x y ≡ Less
below x y h = grind (arith, nat_tests)

above : (x y : ℕ) → y < x → nat_cmp x y ≡ Greater
above x y h = grind (arith, nat_tests)

then_assoc : (r s t : Ordering) → ordering_then (ordering_then r s) t ≡ ordering_then r (ordering_then s t)
then_assoc Less s t = refl
then_assoc Equal s t = refl
then_assoc Greater s t = refl

-- names with what follows them are compared name first
pub slice_cmp-names : (n m s t : List ℕ) → Plain n → Plain m → AtSlash s → AtSlash t
    → slice_cmp nat_cmp (n ++ s) (m ++ t) ≡ ordering_then (slice_cmp nat_cmp n m) (slice_cmp nat_cmp s t)
slice_cmp-names [] [] s t pn pm hs ht = refl
slice_cmp-names [] (y ∷ m) [] t pn pm hs ht = refl
slice_cmp-names [] (y ∷ m) (b ∷ s) t pn pm hs ht = let e : nat_cmp b y ≡ Less = below b y (omega (arith, hs, pm.0)) in rw e refl
slice_cmp-names (x ∷ n) [] s [] pn pm hs ht = refl
slice_cmp-names (x ∷ n) [] s (c ∷ t) pn pm hs ht = let e : nat_cmp x c ≡ Greater = above x c (omega (arith, ht, pn.0)) in rw e refl
slice_cmp-names (x ∷ n) (y ∷ m) s t pn pm hs ht =
    ap (ordering_then (nat_cmp x y)) (slice_cmp-names n m s t pn.2 pm.2 hs ht) ∙ sym (then_assoc (nat_cmp x y) (slice_cmp nat_cmp n m) (slice_cmp nat_cmp s t))

pub slice_cmp-slashed : (p q : Path) → AllPlain p → AllPlain q → slice_cmp nat_cmp (names_text p) (names_text q) ≡ slice_cmp (slice_cmp nat_cmp) p q
slice_cmp-slashed [] [] hp hq = refl
slice_cmp-slashed [] (m ∷ ms) hp hq = refl
slice_cmp-slashed (n ∷ ns) [] hp hq = refl
slice_cmp-slashed (n ∷ ns) (m ∷ ms) hp hq =
    slice_cmp-names n m (names_text ns) (names_text ms) hp.0 hq.0 (slashed-AtSlash ns) (slashed-AtSlash ms)
    ∙ ap (ordering_then (slice_cmp nat_cmp n m)) (slice_cmp-slashed ns ms hp.1 hq.1)

before_more : (n rest : List ℕ) → 0 < length n → slice_cmp nat_cmp [] (n ++ rest) ≡ Less
before_more [] rest h = absurd (omega arith)
before_more (x ∷ n) rest h = refl

after_more : (n rest : List ℕ) → 0 < length n → slice_cmp nat_cmp (n ++ rest) [] ≡ Greater
after_more [] rest h = absurd (omega arith)
after_more (x ∷ n) rest h = refl

pub order_is_that_of_texts : OrderIsThatOfTexts
order_is_that_of_texts [] [] hp hq = refl
order_is_that_of_texts [] (m ∷ ms) hp hq = sym (before_more m (names_text ms) (name_not_empty m (All-head IsName m ms hq.named)))
order_is_that_of_texts (n ∷ ns) [] hp hq = sym (after_more n (names_text ns) (name_not_empty n (All-head IsName n ns hp.named)))
order_is_that_of_texts (n ∷ ns) (m ∷ ms) hp hq =
    sym (slice_cmp-slashed (n ∷ ns) (m ∷ ms) (names_plain (n ∷ ns) hp.named) (names_plain (m ∷ ms) hq.named))

-- the test on the texts is that on the names
pub eq-texts : (p q : Path) → IsPath p → IsPath q → pointwise nat_eq (path_text p) (path_text q) ≡ pointwise (pointwise nat_eq) p q
eq-texts p q hp hq = texts_ties (path_text p) (path_text q) ∙ ap is_eq (sym (order_is_that_of_texts p q hp hq)) ∙ sym (names_ties p q)

pub cmp-texts : (p q : Path) → IsPath p → IsPath q → slice_cmp nat_cmp (path_text p) (path_text q) ≡ slice_cmp (slice_cmp nat_cmp) p q
cmp-texts p q hp hq = sym (order_is_that_of_texts p q hp hq)

pub ruleset text_orders = (eq-texts, cmp-texts)
