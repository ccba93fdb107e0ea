-- A path begins with a prefix exactly where its text goes on at a slash after that of the prefix.
use Rattle.std.proofs.Common.{◌≡◌, ℕ, ◌<◌, List, [], ◌∷◌, ◌++◌, length, take, drop, refl, sym, ap, ◌∙◌, arith, Bool, true, false, IsTrue, get_or, ◌↔◌, nat_eq, suc}
use Rattle.std.proofs.lemmas.List.{drop_all}
use Rattle.std.proofs.lemmas.Bool.Decides.{Decides-eqb}
use Rattle.std.proofs.Math.Seq.{drop-cons}
use Rattle.std.specs.List.{starts_with}
use Rattle.std.specs.Cmp.Lexicographic.{bytes_decides}
use Rattle.std.proofs.lemmas.List.{take-append-drop}
use Rattle.std.proofs.Math.Seq.{take-append_seam, drop-append_seam}
use Rattle.hd_path.specs.Paths.{Path, names_text, is_prefix, IsPath}
use Rattle.hd_path.specs.Texts.{names_in}
use Rattle.hd_path.specs.inner.TextPrefixes.{AtSlash, GoesOnAtSlash}
use Rattle.hd_path.proofs.NamePrefixes.{take-is_prefix, is_prefix-take}
use Rattle.hd_path.proofs.Bytes.{AllPlain, names_plain}
use Rattle.hd_path.proofs.Slashes.{slashed-AtSlash, slashed-append, names_in-slashed, names_in-append}

-- the text of a path that begins with a prefix
pub slashed-prefix : (path prefix : Path) → take (length prefix) path ≡ prefix → names_text path ≡ names_text prefix ++ names_text (drop (length prefix) path)
slashed-prefix path prefix h =
    let whole : take (length prefix) path ++ drop (length prefix) path ≡ path = take-append-drop (length prefix) path in
    let joined : prefix ++ drop (length prefix) path ≡ path = rw h at whole in
    ap names_text (sym joined) ∙ slashed-append prefix (drop (length prefix) path)

-- a text that goes on at a slash after the text of the prefix
pub take-slashed : (path prefix : Path) (rest : List ℕ) → AllPlain path → AllPlain prefix → names_text path ≡ names_text prefix ++ rest → AtSlash rest → take (length prefix) path ≡ prefix
take-slashed path [] rest p q e h = refl
take-slashed path (name ∷ names) rest p q e h =
    let cut : names_in (names_text (name ∷ names) ++ rest) ≡ names_in (names_text (name ∷ names)) ++ names_in rest = names_in-append (names_text (name ∷ names)) rest (omega arith) h in
    let split : path ≡ (name ∷ names) ++ names_in rest = sym (names_in-slashed path p) ∙ ap names_in e ∙ cut ∙ ap (λ front. front ++ names_in rest) (names_in-slashed (name ∷ names) q) in
    ap (take (length (name ∷ names))) split ∙ take-append_seam (name ∷ names) (names_in rest)

begins : (text front : List ℕ) → true ≡ starts_with nat_eq text front → take (length front) text ≡ front
begins text front h = sym ((bytes_decides front (take (length front) text)).0 (sym h))

pub goes_on-whole : (text front : List ℕ) → true ≡ starts_with nat_eq text front → length text ≡ length front → IsTrue (nat_eq (length text) (length front)) ↔ GoesOnAtSlash text front
goes_on-whole text front h e =
    (λ _. (begins text front h, rw (drop_all (length front) text (omega arith)) tt), λ _. (Decides-eqb (length text) (length front)).1 e)

pub goes_on-byte : (text front : List ℕ) → true ≡ starts_with nat_eq text front → length front < length text
    → IsTrue (nat_eq (get_or text (length front) 0) 47) ↔ GoesOnAtSlash text front
goes_on-byte text front h more =
    let split : drop (length front) text ≡ get_or text (length front) 0 ∷ drop (suc (length front)) text = drop-cons text (length front) 0 more in (
      λ t. (begins text front h, rw split ((Decides-eqb (get_or text (length front) 0) 47).0 t)),
      λ g. (Decides-eqb (get_or text (length front) 0) 47).1 (let at : AtSlash (get_or text (length front) 0 ∷ drop (suc (length front)) text) = rw split at g.1 in at),
    )

pub goes_on-not : (text front : List ℕ) → false ≡ starts_with nat_eq text front → IsTrue false ↔ GoesOnAtSlash text front
goes_on-not text front h = (λ t. absurd (cc), λ g. h ∙ (bytes_decides front (take (length front) text)).1 (sym g.0))

-- the test of the texts decides whether the path begins with the prefix
pub take-from_texts : (path prefix : Path) → IsPath path → IsPath prefix → GoesOnAtSlash (names_text path) (names_text prefix) → take (length prefix) path ≡ prefix
take-from_texts path prefix p q g =
    let whole : take (length (names_text prefix)) (names_text path) ++ drop (length (names_text prefix)) (names_text path) ≡ names_text path = take-append-drop (length (names_text prefix)) (names_text path) in
    take-slashed path prefix (drop (length (names_text prefix)) (names_text path)) (names_plain path p.named) (names_plain prefix q.named) (sym (rw g.0 at whole)) g.1

pub texts-from_take : (path prefix : Path) → take (length prefix) path ≡ prefix → GoesOnAtSlash (names_text path) (names_text prefix)
texts-from_take path prefix h =
    let e = slashed-prefix path prefix h in
    rw e (take-append_seam (names_text prefix) (names_text (drop (length prefix) path)), rw (drop-append_seam (names_text prefix) (names_text (drop (length prefix) path))) (slashed-AtSlash (drop (length prefix) path)))

pub drop-slashed_prefix : (path prefix : Path) → take (length prefix) path ≡ prefix → drop (length (names_text prefix)) (names_text path) ≡ names_text (drop (length prefix) path)
drop-slashed_prefix path prefix h =
    ap (drop (length (names_text prefix))) (slashed-prefix path prefix h) ∙ drop-append_seam (names_text prefix) (names_text (drop (length prefix) path))

one_answer : (a b : Bool) → (a ≡ true → b ≡ true) → (b ≡ true → a ≡ true) → a ≡ b
one_answer true b there back = sym (there refl)
one_answer false true there back = back refl
one_answer false false there back = refl

pub is_prefix-decided : (path prefix : Path) (text front : List ℕ) (answer : Bool) → text ≡ names_text path → front ≡ names_text prefix → IsPath path → IsPath prefix
    → IsTrue answer ↔ GoesOnAtSlash text front → answer ≡ is_prefix prefix path
is_prefix-decided path prefix text front answer t f p q h =
    let g : IsTrue answer ↔ GoesOnAtSlash (names_text path) (names_text prefix) = rw (t, f) at h in
    one_answer answer (is_prefix prefix path)
    (λ yes. is_prefix-take prefix path (take-from_texts path prefix p q (g.0 yes)))
    (λ begins. g.1 (texts-from_take path prefix (take-is_prefix prefix path begins)))

pub ruleset slash_tests = (goes_on-whole, goes_on-byte, goes_on-not)
