-- Prims take tokens, however many may be below each other.
use Rattle.std.proofs.Common.{◌≡◌, ℕ, zero, suc, ◌<◌, [], ◌∷◌, ◌++◌, length, Bool, true, false, ◌&&◌, ◌||◌, not, ◌==◌, nat_lt, bytes_eq, codes, refl}
use Rattle.hd_path.specs.Names.{is_identifier}
use Rattle.hd_lexer.specs.declared.lexer.Kind.TheVariants.{Word, Text, OpenCurly, CloseCurly, Semicolon}
use Rattle.hd_layer.specs.declared.limits.Which.TheVariants.{Depth, Name}
use Rattle.hd_layer.specs.Limits.{limit_of}
use Rattle.hd_lexer.specs.Lexing.{Tokens}
use Rattle.hd_usda.specs.reading.Cursor.{is, is_word, rest, count, text, line_of, take}
use Rattle.hd_usda.specs.grammar.Metadata.{metadata}
use Rattle.hd_usda.specs.grammar.NameSet.{NameSet, new_name}
use Rattle.hd_usda.specs.grammar.Rule.{rule_of}
use Rattle.hd_usda.specs.grammar.Property.{property}
use Rattle.hd_usda.specs.grammar.Prims.{LayerBuilder, PrimScope, new_scope, is_prim, prim_type, is_name, next_count, prim_name, prim_header, PrimForm, property_item, item, body, prim, root_item}
use Rattle.hd_path.specs.Paths.{Path}
use Rattle.hd_usda.proofs.Heading.{one_fewer}
use Rattle.hd_usda.proofs.Takes.{Below, After, Takes, Keeps, chained, chosen, whatever, keeps, rest_keeps, take_keeps, past_one_keeps, all_keeps}
use Rattle.hd_usda.proofs.TakesValues.{metadata_keeps}
use Rattle.hd_usda.proofs.TakesItems.{property_takes}

prim_type_keeps : Keeps prim_type
unfolding prim_type
prim_type_keeps n ts low =
    chosen (After n) _ _ (is Word ts) (λ _.
    chosen (After n) _ _ (nat_lt (limit_of Name) (length (text ts))) (λ _. tt) (λ _. rest_keeps n ts low)) (λ _. low)

-- a name is before other tokens
name_found : (ts : Tokens) → not (is_name ts) ≡ false → count (rest ts) < count ts
unfolding is_name
name_found ts h = one_fewer Text ts refl (found (is Text ts) (is_identifier (text ts)) h)
  where
    found : (a b : Bool) → not (a && b) ≡ false → a ≡ true
    found true b h = refl
    found false b h = absurd (cc)

prim_name_takes : (room : ℕ) (counts : Bool) (before : ℕ) (names : NameSet) → Takes (prim_name room counts before names)
unfolding prim_name
prim_name_takes room counts before names ts =
    chosen (After (count ts)) _ _ (not (is_name ts)) (λ _. tt) (λ named.
    chosen (After (count ts)) _ _ (room == 0) (λ _. tt) (λ _.
    chosen (After (count ts)) _ _ (nat_lt (limit_of Name) (length (text ts))) (λ _. tt) (λ _.
    whatever (After (count ts)) _ (next_count counts (line_of ts) before) (λ n.
    whatever (After (count ts)) _ (new_name false (text ts) (line_of ts) names) (λ seen. name_found ts named)))))

head_keeps : (room : ℕ) (counts : Bool) (before : ℕ) (names : NameSet) → Keeps (prim_header room counts before names)
unfolding prim_header
head_keeps room counts before names n ts low =
    chained (After n) (After n) _ (prim_type ts) (prim_type_keeps n ts low) (λ kind low1.
    chained (After n) (After n) _ (prim_name room counts before names kind.1) (keeps (prim_name room counts before names) (prim_name_takes room counts before names) n kind.1 low1) (λ named low2.
    chained (Below n) (After n) _ (metadata named.1) (metadata_keeps n named.1 low2) (λ u low3.
    chained (Below n) (After n) _ (take OpenCurly u) (take_keeps OpenCurly refl n u low3) (λ v low4. low4))))

-- the first word of a prim is before other tokens
prim_found : (ts : Tokens) → is_prim ts ≡ true → count (rest ts) < count ts
unfolding is_prim is_word
prim_found ts h = one_fewer Word ts refl (found (is Word ts) (bytes_eq (text ts) (codes "def")) (bytes_eq (text ts) (codes "over")) (bytes_eq (text ts) (codes "class")) h)
  where
    found : (a b c d : Bool) → ((a && b) || (a && c) || (a && d)) ≡ true → a ≡ true
    found true b c d h = refl
    found false b c d h = absurd (cc)

property_item_takes : (counts : Bool) (s : PrimScope) → Takes (property_item counts s)
unfolding property_item
property_item_takes counts s ts =
    chained (After (count ts)) (After (count ts)) _ (property (rule_of counts) s.body ts) (property_takes (rule_of counts) s.body ts) (λ b low. low)

-- an item, where prims of that room do not add tokens
pub item_takes : (form : PrimForm) → ((counts : Bool) (s : PrimScope) → Keeps (form counts s)) → (counts : Bool) (s : PrimScope) → Takes (item form counts s)
unfolding item
item_takes form keep counts s ts =
    chosen (After (count ts)) _ _ (is_word (codes "variantSet") ts) (λ _. tt) (λ _.
    chained (After (count ts)) (After (count ts)) _ _
    (chosen (After (count ts)) (form (counts && not (is_word (codes "class") ts)) s (rest ts)) (property_item counts s ts) (is_prim ts)
    (λ found. keep (counts && not (is_word (codes "class") ts)) s (count ts) (rest ts) (prim_found ts found))
    (λ _. property_item_takes counts s ts))
    (λ r low. past_one_keeps Semicolon (count ts) r.1 low))

body_keeps : (form : PrimForm) → ((counts : Bool) (s : PrimScope) → Keeps (form counts s)) → (counts : Bool) (builder : LayerBuilder) → Keeps (body form counts builder)
unfolding body
body_keeps form keep counts builder = all_keeps CloseCurly (item form counts) (λ s. keeps (item form counts s) (item_takes form keep counts s)) (new_scope builder)

pub prim_keeps : (room : ℕ) (path : Path) (counts : Bool) (s : PrimScope) → Keeps (prim room path counts s)
unfolding prim
prim_keeps zero path counts s n ts low =
    chained (After n) (After n) _ (prim_header 0 counts s.builder.count s.names ts) (head_keeps 0 counts s.builder.count s.names n ts low) (λ h low1. low1)
prim_keeps (suc room) path counts s n ts low =
    chained (After n) (After n) _ (prim_header (suc room) counts s.builder.count s.names ts) (head_keeps (suc room) counts s.builder.count s.names n ts low) (λ h low1.
    chained (After n) (After n) _ (body (prim room (path ++ h.0.named.name ∷ [])) counts (record s.builder { count = h.0.named.count }) h.1)
    (body_keeps (prim room (path ++ h.0.named.name ∷ [])) (prim_keeps room (path ++ h.0.named.name ∷ [])) counts (record s.builder { count = h.0.named.count }) n h.1 low1) (λ b low2. low2))

pub root_item_takes : (s : PrimScope) → Takes (root_item s)
unfolding root_item
root_item_takes s ts =
    chosen (After (count ts)) _ _ (is_prim ts)
    (λ found. prim_keeps (limit_of Depth) [] (not (is_word (codes "class") ts)) s (count ts) (rest ts) (prim_found ts found)) (λ _. tt)
