-- Parsing against the text of a path.
use Rattle.std.proofs.Common.{◌≡◌, ◌≢◌, ℕ, ◌+◌, ◌<◌, ◌≤◌, Bool, true, false, cond, List, [], ◌∷◌, ◌++◌, length, refl, sym, ap, ◌∙◌, subst, arith, Result, Ok, Err, None}
use Rattle.std.proofs.lemmas.Bool.Decides.{nat_tests}
use Rattle.std.proofs.lemmas.List.Elements.{All-head, All-tail, All-nil, All-cons}
use Rattle.std.specs.Prelude.{All, nat_lt, ◌==◌}
use Rattle.std.proofs.lemmas.List.Splits.{length-slice_split}
use Rattle.hd_path.specs.declared.fault.PathFault.{PathFault}
use Rattle.hd_path.specs.declared.fault.PathFault.TheVariants.{Syntax}
use Rattle.std.specs.Result.{result_err}
use Rattle.hd_path.specs.Faults.{Gives}
use Rattle.hd_path.specs.Texts.{names_in, IsSlashed}
use Rattle.hd_path.proofs.Building.{IsSlashed-from_names, names_in-from_names}
use Rattle.hd_path.specs.Names.{Name, identifier_len, IsName}
use Rattle.hd_path.specs.Paths.{Path, names_text, path_text, IsPath}
use Rattle.hd_path.specs.Parsing.{is_slash, pieces, name_at, before_names, names_at, path_of_text}
use Rattle.hd_path.specs.Laws.{TextSpellsPath, SpelledPathHasText}
use Rattle.hd_path.proofs.Bytes.{AllPlain, names_plain, name_not_empty, identifier_len-identifier, identifier-identifier_len, identifier_len-le}
use Rattle.hd_path.proofs.Slashes.{slashed-pieces, pieces-slashed, is_slash_is}

-- the choice of name_at, for any lengths
chosen : {T : Type 0} (len before size : ℕ) (a b c d e : T) → len ≡ size → 0 < size → size ≤ 64 → before < 32
    → cond (len == 0) a (cond (before == 32) b (cond (nat_lt 64 len) c (cond (nat_lt len size) d e))) ≡ e
chosen len before size a b c d e h some short shallow = grind (arith, nat_tests)

pub name_at-name : (place before : ℕ) (name : List ℕ) → IsName name → before < 32 → name_at place before name ≡ Ok name
name_at-name place before name h shallow =
    chosen (identifier_len name) before (length name) _ _ _ _ _ (identifier_len-identifier name h.identifier) (name_not_empty name h) h.short shallow

pub names_at-names : (place before : ℕ) (names : Path) → All IsName names → before + length names ≤ 32 → names_at place before names ≡ Ok names
names_at-names place before [] h shallow = refl
names_at-names place before (name ∷ names) h shallow =
    rw (
      name_at-name place before name (All-head IsName name names h) (omega arith),
      names_at-names (place + length name + 1) (before + 1) names (All-tail IsName name names h) (omega arith),
    ) refl

pub parsed-slash : (rest : List ℕ) → 0 < length rest → path_of_text (47 ∷ rest) ≡ names_at 1 0 (pieces rest)
parsed-slash [] h = absurd (omega arith)
parsed-slash (b ∷ bs) h = refl

longer : (name rest : List ℕ) → 0 < length name → 0 < length (name ++ rest)
longer [] rest h = absurd (omega arith)
longer (b ∷ bs) rest h = omega arith

pub text_spells_path : TextSpellsPath
text_spells_path [] h = refl
text_spells_path (name ∷ names) h =
    let plain : AllPlain (name ∷ names) = names_plain (name ∷ names) h.named in
    let some : 0 < length name = name_not_empty name (All-head IsName name names h.named) in
    rw (parsed-slash (name ++ names_text names) (longer name (names_text names) some), pieces-slashed name names plain.0 plain.1)
    (names_at-names 1 0 (name ∷ names) h.named (omega (arith, h.shallow)))

-- the choices that name_at passed
passed : (w x y z : Bool) (a b c d : PathFault) (piece name : List ℕ)
    → cond w (Err a) (cond x (Err b) (cond y (Err c) (cond z (Err d) (Ok piece)))) ≡ Ok name
    → (w ≡ false) × (x ≡ false) × (y ≡ false) × (z ≡ false) × (piece ≡ name)
passed true x y z a b c d piece name h = absurd (cc)
passed false true y z a b c d piece name h = absurd (cc)
passed false false true z a b c d piece name h = absurd (cc)
passed false false false true a b c d piece name h = absurd (cc)
passed false false false false a b c d piece name h = (refl, refl, refl, refl, cc)

lengths : (len before size : ℕ) → (len == 0) ≡ false → (before == 32) ≡ false → nat_lt 64 len ≡ false → nat_lt len size ≡ false → len ≤ size → before ≤ 32
    → (0 < size) × (len ≡ size) × (size ≤ 64) × (before < 32)
lengths len before size w x y z le shallow =
    let a : 0 < len = grind (arith, nat_tests) in
    let b : before < 32 = grind (arith, nat_tests) in
    let c : len ≤ 64 = grind (arith, nat_tests) in
    let d : size ≤ len = grind (arith, nat_tests) in
    (omega arith, omega arith, omega arith, b)

pub name_at-Ok : (place before : ℕ) (piece name : List ℕ) → before ≤ 32 → name_at place before piece ≡ Ok name → (piece ≡ name) × IsName piece × (before < 32)
name_at-Ok place before piece name shallow h =
    let p = passed (identifier_len piece == 0) (before == 32) (nat_lt 64 (identifier_len piece)) (nat_lt (identifier_len piece) (length piece)) _ _ _ _ piece name h in
    let l = lengths (identifier_len piece) before (length piece) p.0 p.1 p.2 p.3 (identifier_len-le piece) shallow in
    (p.4, record { identifier = identifier-identifier_len piece l.0 l.1; short = l.2 }, l.3)

-- what the pieces are where they are names
pub record AreNames (before : ℕ) (names pieces : List Name) : Type 0 where
  pub same : names ≡ pieces
  pub named : All IsName pieces
  pub shallow : 0 < length pieces → before + length pieces ≤ 32

room : (part : List ℕ) (parts : List Name) (before : ℕ) → before < 32 → (0 < length parts → before + 1 + length parts ≤ 32) → before + length (part ∷ parts) ≤ 32
room part [] before h more = omega arith
room part (next ∷ parts) before h more = let m = more (omega arith) in omega arith

pub names_at-Ok : (place before : ℕ) (parts names : List Name) → before ≤ 32 → names_at place before parts ≡ Ok names → AreNames before names parts
names_at-Ok place before [] names shallow h = record { same = cc; named = All-nil IsName; shallow = λ l. absurd (omega arith) }
names_at-Ok place before (part ∷ parts) names shallow h =
    step (name_at place before part) (names_at (place + length part + 1) (before + 1) parts) refl refl h (names_at-Ok (place + length part + 1) (before + 1) parts)
  where
    step : (r : Result Name PathFault) (q : Result Path PathFault) → name_at place before part ≡ r → names_at (place + length part + 1) (before + 1) parts ≡ q → before_names r q ≡ Ok names
        → ((ns : Path) → before + 1 ≤ 32 → names_at (place + length part + 1) (before + 1) parts ≡ Ok ns → AreNames (before + 1) ns parts) → AreNames before names (part ∷ parts)
    step (Err f) q e g o rest = absurd (cc)
    step (Ok n) (Err f) e g o rest = absurd (cc)
    step (Ok n) (Ok ns) e g o rest =
        let first = name_at-Ok place before part n shallow e in
        let others = rest ns (omega (arith, first.2)) g in
        let whole : n ∷ ns ≡ names = cc in
        let one : part ≡ n = first.0 in
        let tail : ns ≡ parts = others.same in
        record { same = cc; named = All-cons IsName part parts first.1 others.named; shallow = λ l. room part parts before first.2 others.shallow }

path_text-slashed : (names : Path) → 0 < length names → path_text names ≡ names_text names
path_text-slashed [] h = absurd (omega arith)
path_text-slashed (name ∷ names) h = refl

some_pieces : (text : List ℕ) → 0 < length (pieces text)
some_pieces text = omega (arith, length-slice_split is_slash text)

spelled : (text : List ℕ) (path : Path) → names_at 1 0 (pieces text) ≡ Ok path → IsPath path × (path_text path ≡ 47 ∷ text)
spelled text path h =
    let are = names_at-Ok 1 0 (pieces text) path (omega arith) h in
    let some = some_pieces text in
    let low = are.shallow some in
    subst (λ (q : Path). IsPath q × (path_text q ≡ 47 ∷ text)) (sym are.same)
    (record { shallow = omega (arith, low); named = are.named }, path_text-slashed (pieces text) some ∙ slashed-pieces text)

pub spelled_path_has_text : SpelledPathHasText
spelled_path_has_text [] path h = absurd (cc)
spelled_path_has_text (b ∷ []) path h = by_slash (is_slash b) refl
  where
    by_slash : (s : Bool) → is_slash b ≡ s → IsPath path × (path_text path ≡ b ∷ [])
    by_slash true e =
        let root : [] ≡ path = let o : Ok [] ≡ Ok path = rw e at h in cc in
        subst (λ (q : Path). IsPath q × (path_text q ≡ b ∷ [])) root
        (record { shallow = omega arith; named = All-nil IsName }, ap (λ c. c ∷ []) (sym (is_slash_is b e)))
    by_slash false e = let o : Err (Syntax 0) ≡ Ok path = rw e at h in absurd (cc)
spelled_path_has_text (b ∷ c ∷ rest) path h = by_slash (is_slash b) refl
  where
    by_slash : (s : Bool) → is_slash b ≡ s → IsPath path × (path_text path ≡ b ∷ c ∷ rest)
    by_slash true e =
        let o : names_at 1 0 (pieces (c ∷ rest)) ≡ Ok path = rw e at h in
        let found = spelled (c ∷ rest) path o in
        (found.0, found.1 ∙ ap (λ d. d ∷ c ∷ rest) (sym (is_slash_is b e)))
    by_slash false e = let o : Err (Syntax 0) ≡ Ok path = rw e at h in absurd (cc)

-- a text without a fault, with the path that it spells
pub record Spells (bytes : List ℕ) (names : Path) : Type 0 where
  pub is : path_of_text bytes ≡ Ok names
  pub path : IsPath names
  pub text : path_text names ≡ bytes

without_fault : (text : List ℕ) (r : Result Path PathFault) → path_of_text text ≡ r → None ≡ result_err r → (path : Path) × Spells text path
without_fault text (Ok path) e h = let found = spelled_path_has_text text path e in (path, record { is = e; path = found.0; text = found.1 })
without_fault text (Err fault) e h = absurd (cc)

pub spells : (text : List ℕ) → None ≡ result_err (path_of_text text) → (path : Path) × Spells text path
spells text h = without_fault text (path_of_text text) refl h

not_root : (path : Path) → length (path_text path) ≢ 1 → path_text path ≡ names_text path
not_root [] more = absurd (more refl)
not_root (name ∷ names) more = refl

pub parsed-slashed : (text : List ℕ) → None ≡ result_err (path_of_text text) → length text ≢ 1 → IsSlashed text × (path_of_text text ≡ Ok (names_in text))
parsed-slashed text h more =
    let found = spells text h in
    let t : text ≡ names_text found.0 = sym found.1.text ∙ not_root found.0 (λ e. more (sym (ap length found.1.text) ∙ e)) in
    (IsSlashed-from_names text found.0 t found.1.path, found.1.is ∙ ap (λ (p : Path). Ok p) (sym (names_in-from_names text found.0 t found.1.path)))

-- where the answer is the parsed one, it is that of each path with the text
pub gives_path : (text : List ℕ) (answer : Result Path PathFault) → Gives (path_of_text text) answer → (names : Path) → IsPath names → path_text names ≡ text → Gives (Ok names) answer
gives_path text answer h names path t =
    subst (λ (expected : Result Path PathFault). Gives expected answer) (sym (ap path_of_text t) ∙ text_spells_path names path) h
