-- The texts of paths that are made of other paths.
use Rattle.std.proofs.Common.{◌≡◌, ◌≢◌, ℕ, suc, ◌+◌, ◌-◌, ◌<◌, ◌≤◌, List, [], ◌∷◌, ◌++◌, length, get_or, take, drop, refl, sym, ap, ◌∙◌, ⊎_elim, subst, arith, length-append, append_assoc}
use Rattle.std.proofs.lemmas.List.{append-nil, length-take, length-drop, take-append-drop}
use Rattle.std.proofs.lemmas.List.Elements.{All-append, All-take, All-drop, All-push, All-get_or}
use Rattle.std.proofs.lemmas.Str.Ascii.{IsAscii-nil, IsAscii-cons}
use Rattle.std.proofs.lemmas.Str.{IsAscii-append, IsCharBoundary-from_ascii}
use Rattle.std.specs.Str.{IsAscii, IsCharBoundary}
use Rattle.std.proofs.Math.Seq.{drop-cons, drop-append-add, take-append_seam, get_or-append_seam}
use Rattle.std.proofs.lemmas.List.{take_more, take_all, drop_all, get_or-append-add}
use Rattle.std.proofs.lemmas.Bool.{cases_lt}
use Rattle.std.specs.List.{count_by, prefix_len}
use Rattle.std.specs.Prelude.{Result, Ok, IfOk, nat_lt, false}
use Rattle.std.proofs.lemmas.Bool.Decides.{nat_tests}
use Rattle.hd_path.specs.Changes.{replace_prefix}
use Rattle.hd_path.specs.Names.{IsName, identifier_len, is_word}
use Rattle.hd_path.specs.Paths.{Path, names_text, IsPath}
use Rattle.hd_path.specs.Parsing.{is_slash}
use Rattle.hd_path.specs.Texts.{names_in, IsSlashed}
use Rattle.hd_path.specs.inner.TextPrefixes.{AtSlash}
use Rattle.hd_path.proofs.Bytes.{Plain, AllPlain, names_plain, name_plain, Plain-get_or, identifier_len-append}
use Rattle.hd_path.proofs.Slashes.{slashed-append, names_in-slashed, slashed-AtSlash, count-names_in}
use Rattle.hd_path.proofs.Prefixes.{slashed-prefix}

pub names_in-from_names : (text : List ℕ) (names : Path) → text ≡ names_text names → IsPath names → names_in text ≡ names
names_in-from_names text names e h = ap names_in e ∙ names_in-slashed names (names_plain names h.named)

pub IsSlashed-from_names : (text : List ℕ) (names : Path) → text ≡ names_text names → IsPath names → IsSlashed text
IsSlashed-from_names text names e h =
    let same = names_in-from_names text names e h in
    record { path = subst IsPath (sym same) h; same = ap names_text same ∙ sym e }

pub IsPath-append : (p q : Path) → IsPath p → IsPath q → length p + length q ≤ 32 → IsPath (p ++ q)
IsPath-append p q hp hq room = record { shallow = omega (arith, length-append p q); named = All-append IsName p q hp.named hq.named }

pub IsPath-push : (p : Path) (name : List ℕ) → IsPath p → IsName name → length p < 32 → IsPath (p ++ name ∷ [])
IsPath-push p name hp hn room = record { shallow = omega (arith, length-append p (name ∷ [])); named = All-push IsName p name hp.named hn }

pub IsPath-take : (n : ℕ) (p : Path) → IsPath p → IsPath (take n p)
IsPath-take n p h = record { shallow = omega (arith, length-take n p, h.shallow); named = All-take IsName n p h.named }

pub IsPath-drop : (n : ℕ) (p : Path) → IsPath p → IsPath (drop n p)
IsPath-drop n p h = record { shallow = omega (arith, length-drop n p, h.shallow); named = All-drop IsName n p h.named }

pub slashed-push : (p : Path) (name : List ℕ) → names_text (p ++ name ∷ []) ≡ (names_text p ++ 47 ∷ []) ++ name
slashed-push p name =
    slashed-append p (name ∷ []) ∙ ap (λ (rest : List ℕ). names_text p ++ 47 ∷ rest) (append-nil name) ∙ sym (append_assoc (names_text p) (47 ∷ []) name)

plain_ascii : (bs : List ℕ) → Plain bs → IsAscii bs
plain_ascii [] h = IsAscii-nil
plain_ascii (b ∷ bs) h = IsAscii-cons b bs h.1 (plain_ascii bs h.2)

slashed_ascii : (names : Path) → AllPlain names → IsAscii (names_text names)
slashed_ascii [] h = IsAscii-nil
slashed_ascii (name ∷ names) h = IsAscii-cons 47 (name ++ names_text names) (omega arith) (IsAscii-append name (names_text names) (plain_ascii name h.0) (slashed_ascii names h.1))

-- the text of a path may be cut anywhere
pub IsCharBoundary-slashed : (names : Path) (i : ℕ) → IsPath names → i ≤ length (names_text names) → IsCharBoundary (names_text names) i
IsCharBoundary-slashed names i h within = IsCharBoundary-from_ascii (names_text names) i (slashed_ascii names (names_plain names h.named)) within

pub count-slashed : (names : Path) → IsPath names → count_by is_slash (names_text names) ≡ length names
count-slashed names h = count-names_in names (names_plain names h.named)

pub depth-le : (names : Path) → IsPath names → length names ≤ 32
depth-le names h = h.shallow

pub count-held : (text : List ℕ) (names : Path) (n : ℕ) → n ≡ count_by is_slash text → text ≡ names_text names → IsPath names → n ≡ length names
count-held text names n e t h = e ∙ ap (count_by is_slash) t ∙ count-slashed names h

pub ruleset depths = (count-held, depth-le)

at_slash_no_word : (rest : List ℕ) → AtSlash rest → prefix_len is_word rest ≡ 0
at_slash_no_word [] h = refl
at_slash_no_word (b ∷ bs) h = rw h refl

-- the text before a name, the name, and the text after it
slashed-at : (names : Path) (number : ℕ) → number < length names → names_text names ≡ names_text (take number names) ++ 47 ∷ (get_or names number [] ++ names_text (drop (suc number) names))
slashed-at names number within =
    ap names_text (sym (take-append-drop number names)) ∙ slashed-append (take number names) (drop number names)
    ∙ ap (λ (ns : Path). names_text (take number names) ++ names_text ns) (drop-cons names number [] within)

-- where a name of a path begins in its text
pub record BeginsName (names : Path) (number : ℕ) (text : List ℕ) (start : ℕ) : Type 0 where
  pub rest : drop start text ≡ get_or names number [] ++ names_text (drop (suc number) names)
  pub len : identifier_len (drop start text) ≡ length (get_or names number [])
  pub within : start + length (get_or names number []) ≤ length text
  pub next : start + length (get_or names number []) ≡ length (names_text (take (number + 1) names))

pub begins_name : (text : List ℕ) (names : Path) (number start : ℕ) → text ≡ names_text names → IsPath names → number < length names → start ≡ length (names_text (take number names)) + 1 → BeginsName names number text start
begins_name text names number start t h within s =
    let front = names_text (take number names) in
    let name = get_or names number [] in
    let tail = names_text (drop (suc number) names) in
    let split : text ≡ front ++ 47 ∷ (name ++ tail) = t ∙ slashed-at names number within in
    let rest : drop start text ≡ name ++ tail = rw (s, split) (drop-append-add front (47 ∷ (name ++ tail)) 1) in
    let is : IsName name = All-get_or IsName names number [] within h.named in
    let more : names_text (take (number + 1) names) ≡ (front ++ 47 ∷ []) ++ name = ap names_text (take_more names number [] within) ∙ slashed-push (take number names) name in
    record {
      rest = rest;
      len = ap identifier_len rest ∙ identifier_len-append name tail is.identifier (at_slash_no_word tail (slashed-AtSlash (drop (suc number) names)));
      within = omega (arith, ap length split, length-append front (47 ∷ (name ++ tail)), length-append name tail);
      next = omega (arith, ap length more, length-append (front ++ 47 ∷ []) name, length-append front (47 ∷ []));
    }

last_slash : (front name : List ℕ) (start : ℕ) → Plain name → start ≤ length (front ++ 47 ∷ name)
    → (0 < start → get_or (front ++ 47 ∷ name) (start - 1) 0 ≡ 47) → ((k : ℕ) → start ≤ k → k < length (front ++ 47 ∷ name) → get_or (front ++ 47 ∷ name) k 0 ≢ 47)
    → start ≡ length front + 1
last_slash front name start plain within slash after =
    let size = length-append front (47 ∷ name) in
    ⊎_elim
    (λ later. ⊎_elim
    (λ far.
    let i : ℕ = start - length front - 2 in
    let place : start - 1 ≡ length front + suc i = omega arith in
    let byte : get_or (front ++ 47 ∷ name) (start - 1) 0 ≡ get_or name i 0 = rw place (get_or-append-add front (47 ∷ name) (suc i) 0) in
    let above : 47 < get_or name i 0 = Plain-get_or name i plain (omega arith) in
    let is : get_or (front ++ 47 ∷ name) (start - 1) 0 ≡ 47 = slash (omega arith) in
    absurd (omega arith))
    (λ near. omega arith)
    (cases_lt (length front + 1) start))
    (λ early. absurd (after (length front) early (omega arith) (get_or-append_seam front 47 name 0)))
    (cases_lt (length front) start)

-- the last name begins after the last slash
pub last_name_begins : (text : List ℕ) (names : Path) (start : ℕ) → text ≡ names_text names → IsPath names → 0 < length names → start ≤ length text
    → (0 < start → get_or text (start - 1) 0 ≡ 47) → ((k : ℕ) → start ≤ k → k < length text → get_or text k 0 ≢ 47)
    → start ≡ length (names_text (take (length names - 1) names)) + 1
last_name_begins text names start t h some within slash after =
    let number = length names - 1 in
    let front = names_text (take number names) in
    let name = get_or names number [] in
    let last : drop (suc number) names ≡ [] = drop_all (suc number) names (omega arith) in
    let split : text ≡ front ++ 47 ∷ name = t ∙ slashed-at names number (omega arith) ∙ ap (λ (ns : Path). front ++ 47 ∷ (name ++ names_text ns)) last ∙ ap (λ (n : List ℕ). front ++ 47 ∷ n) (append-nil name) in
    let plain : Plain name = name_plain name (All-get_or IsName names number [] (omega arith) h.named) in
    last_slash front name start plain (rw split at within) (rw split at slash) (rw split at after)

pub take-last : (text : List ℕ) (names : Path) (start : ℕ) → text ≡ names_text names → 0 < length names → start ≡ length (names_text (take (length names - 1) names)) + 1
    → take (start - 1) text ≡ names_text (take (length names - 1) names)
take-last text names start t some s =
    let number = length names - 1 in
    let front = names_text (take number names) in
    let place : start - 1 ≡ length front = omega arith in
    rw (place, t, slashed-at names number (omega arith)) (take-append_seam front (47 ∷ (get_or names number [] ++ names_text (drop (suc number) names))))

pub part_is : (text name tail : List ℕ) (start len : ℕ) → drop start text ≡ name ++ tail → len ≡ length name → take (start + len - start) (drop start text) ≡ name
part_is text name tail start len d l = let n : start + len - start ≡ length name = omega arith in rw (n, d) (take-append_seam name tail)

pub part_rest : (n : ℕ) (xs : List ℕ) → take (length xs - n) (drop n xs) ≡ drop n xs
part_rest n xs = take_all (length xs - n) (drop n xs) (omega (arith, length-drop n xs))

-- a text that may be cut at a place, of a path
pub cut_at : (text : List ℕ) (names : Path) (i : ℕ) → text ≡ names_text names → IsPath names → i ≤ length text → IsCharBoundary text i
cut_at text names i t h within = rw t (IsCharBoundary-slashed names i h (omega (arith, ap length t)))

at_most : (limit n : ℕ) → n ≤ limit → nat_lt limit n ≡ false
at_most limit n h = grind (arith, nat_tests)

-- the text that three pushes leave
pub pushed_name : (path : Path) (parent name slash first second third fourth : List ℕ) → parent ≡ names_text path → first ≡ [] → second ≡ first ++ parent → slash ≡ 47 ∷ []
    → third ≡ second ++ slash → fourth ≡ third ++ name → fourth ≡ names_text (path ++ name ∷ [])
pushed_name path parent name slash first second third fourth p one two s three four = rw (four, three, two, one, p, s) (sym (slashed-push path name))

pub pushed_rest : (path rest : Path) (front back first second third : List ℕ) → front ≡ names_text path → back ≡ names_text rest → first ≡ [] → second ≡ first ++ front → third ≡ second ++ back
    → third ≡ names_text (path ++ rest)
pushed_rest path rest front back first second third p r one two three = rw (three, two, one, p, r) (sym (slashed-append path rest))

pub path_known : {E : Type 0} (r : Result Path E) (text : List ℕ) (names : Path) → IfOk r (λ path. path ≡ names_in text) → names_in text ≡ names → IfOk r (λ path. path ≡ names)
path_known r text names h e = subst (λ (ns : Path). IfOk r (λ path. path ≡ ns)) e h

pub front_part : (n : ℕ) (text : List ℕ) → take (n - 0) (drop 0 text) ≡ take n text
front_part n text = let e : n - 0 ≡ n = omega arith in rw e refl

pub slashed_prefix-le : (path prefix : Path) → take (length prefix) path ≡ prefix → length (names_text prefix) ≤ length (names_text path)
slashed_prefix-le path prefix h =
    omega (arith, ap length (slashed-prefix path prefix h), length-append (names_text prefix) (names_text (drop (length prefix) path)))

pub replaced-Ok : (path from to : Path) → length path - length from + length to ≤ 32 → replace_prefix path from to ≡ Ok (to ++ drop (length from) path)
replaced-Ok path from to room =
    let low : length (to ++ drop (length from) path) ≤ 32 = omega (arith, length-append to (drop (length from) path), length-drop (length from) path) in
    let test : nat_lt 32 (length (to ++ drop (length from) path)) ≡ false = at_most _ _ low in
    rw test refl

pub ruleset slashed_texts = (IsSlashed-from_names, names_in-from_names, length-drop, replaced-Ok, path_known)
