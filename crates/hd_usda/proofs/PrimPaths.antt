-- The path of a prim that a text spells.
use Rattle.std.proofs.Common.{◌≡◌, ℕ, ◌<◌, ◌≤◌, ◌⊎◌, inl, inr, List, [], ◌∷◌, length, true, false, nat_lt, Result, Ok, Err, All, count_by, refl, sym, ap, ◌∙◌, arith}
use Rattle.std.proofs.lemmas.Bool.{and_parts, or_parts}
use Rattle.std.proofs.lemmas.Bool.Decides.{nat_tests}
use Rattle.std.proofs.lemmas.List.Elements.{All-nil, All-cons}
use Rattle.std.proofs.lemmas.List.Splits.{length-slice_split, slice_split-cons_yes}
use Rattle.std.specs.List.{list_all, list_any}
use Rattle.hd_path.specs.declared.fault.PathFault.{PathFault}
use Rattle.hd_path.specs.declared.fault.PathFault.TheVariants.{NoMemory}
use Rattle.hd_path.specs.Names.{is_identifier, IsName}
use Rattle.hd_path.specs.Paths.{IsPath, path_text, names_text}
use Rattle.hd_path.proofs.Slashes.{slashed-pieces, is_slash_is}
use Rattle.hd_path.specs.Parsing.{is_slash, pieces}
use Rattle.hd_usda.specs.used.Targets.{are_identifiers, is_prim_path, has_long, names_of}
use Rattle.hd_usda.specs.reading.Words.{is_long}

within : (n bound : ℕ) → nat_lt bound n ≡ false → n ≤ bound
within n bound h = grind (arith, nat_tests)

are_names : (parts : List (List ℕ)) → list_all is_identifier parts ≡ true → list_any is_long parts ≡ false → All IsName parts
are_names [] h short = All-nil IsName
are_names (part ∷ parts) h short =
    let identifiers = and_parts (is_identifier part) (list_all is_identifier parts) h in
    let none = or_parts (is_long part) (list_any is_long parts) short in
    All-cons IsName part parts (record { identifier = identifiers.0; short = within (length part) 64 none.0 }) (are_names parts identifiers.1 none.1)

pub spells_path : (text : List ℕ) → is_prim_path text ≡ true → nat_lt 32 (count_by is_slash text) ≡ false → has_long text ≡ false → IsPath (names_of text)
spells_path [] prim shallow short = absurd (cc)
spells_path (b ∷ bs) prim shallow short =
    let parts = and_parts (is_slash b) (are_identifiers bs) prim in
    let cut : pieces (b ∷ bs) ≡ [] ∷ pieces bs = slice_split-cons_yes is_slash b bs parts.0 in
    let long : list_any is_long (pieces bs) ≡ false = ap (list_any is_long) (sym cut) ∙ short in
    let size = length-slice_split is_slash (b ∷ bs) in
    let more = length-slice_split is_slash bs in
    let one = ap length cut in
    let few = within (count_by is_slash (b ∷ bs)) 32 shallow in
    record { shallow = omega (arith, size, one, few); named = are_names (pieces bs) parts.1 long }

pub spelled_text : (text : List ℕ) → is_prim_path text ≡ true → path_text (names_of text) ≡ text
spelled_text [] prim = absurd (cc)
spelled_text (b ∷ bs) prim =
    let parts = and_parts (is_slash b) (are_identifiers bs) prim in
    some (pieces bs) (omega (arith, length-slice_split is_slash bs)) ∙ slashed-pieces bs ∙ ap (λ c. c ∷ bs) (sym (is_slash_is b parts.0))
  where
    some : (ps : List (List ℕ)) → 0 < length ps → path_text ps ≡ names_text ps
    some [] h = absurd (omega arith)
    some (p ∷ ps) h = refl

-- so it is the path that is parsed, or memory alone is wanting
pub spelled_path : (names path : List (List ℕ)) → ◌≡◌ {A = Result (List (List ℕ)) PathFault} (Ok names) (Ok path) → path ≡ names
spelled_path names path h = cc

pub spelled_fault : (names : List (List ℕ)) (fault : PathFault) → (fault ≡ NoMemory) ⊎ (Ok names ≡ Err fault) → fault ≡ NoMemory
spelled_fault names fault (inl none) = none
spelled_fault names fault (inr other) = absurd (cc)
