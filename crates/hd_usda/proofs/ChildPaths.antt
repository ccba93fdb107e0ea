-- The path of a prim below another.
use Rattle.std.proofs.Common.{◌≡◌, ℕ, ◌<◌, ◌≤◌, List, [], ◌∷◌, ◌++◌, length, ◌||◌, ◌==◌, cond, nat_lt, Ok, Err, ◌⊎◌, inl, inr, IsAscii, ap, ◌∙◌, arith}
use Rattle.std.proofs.lemmas.Bool.Decides.{nat_tests}
use Rattle.hd_path.specs.declared.fault.PathFault.{PathFault}
use Rattle.hd_path.specs.declared.fault.PathFault.TheVariants.{NoMemory}
use Rattle.hd_path.specs.Names.{IsName, identifier_len}
use Rattle.hd_path.specs.Changes.{child_of}
use Rattle.hd_path.proofs.Bytes.{identifier_len-identifier, name_not_empty}
use Rattle.hd_usda.proofs.Ascii.{identifier_ascii}

pub prim_name_ascii : (name : List ℕ) → IsName name → IsAscii name
prim_name_ascii name h = identifier_ascii name h.identifier

-- the choice of a child, where each test passes
last : {T : Type 0} (len size depth : ℕ) (a b c d : T) → len ≡ size → 0 < size → size ≤ 64 → depth < 32
    → cond ((len == 0) || nat_lt len size) a (cond (nat_lt 64 size) b (cond (depth == 32) c d)) ≡ d
last len size depth a b c d whole some short shallow = grind (arith, nat_tests)

pub child_is : (parent : List (List ℕ)) (name : List ℕ) → IsName name → length parent < 32 → child_of parent name ≡ Ok (parent ++ name ∷ [])
child_is parent name h shallow =
    last (identifier_len name) (length name) (length parent) _ _ _ _ (identifier_len-identifier name h.identifier) (name_not_empty name h) h.short shallow

-- so memory alone may be wanting
pub child_fault : (parent : List (List ℕ)) (name text : List ℕ) (fault : PathFault) → IsName name → length parent < 32 → text ≡ name → (fault ≡ NoMemory) ⊎ (child_of parent text ≡ Err fault) → fault ≡ NoMemory
child_fault parent name text fault h shallow same (inl none) = none
child_fault parent name text fault h shallow same (inr other) =
    let is : child_of parent text ≡ Ok (parent ++ name ∷ []) = ap (child_of parent) same ∙ child_is parent name h shallow in
    absurd (cc)
