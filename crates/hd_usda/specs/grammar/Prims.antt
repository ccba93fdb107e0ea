-- The layer: prims, their properties, and prims below them.
use Rattle.std.specs.Prelude.{ℕ, zero, suc, ◌+◌, List, [], ◌∷◌, ◌++◌, map, Bool, false, ◌&&◌, ◌||◌, not, ◌==◌, nat_le, Result, Ok, Err, if◌then◌else◌, codes}
use Rattle.std.specs.FinSet.{empty}
use Rattle.std.specs.BTreeMap.{insert_entry}
use Rattle.hd_path.specs.Paths.{Path, path_cmp}
use Rattle.hd_path.specs.Names.{is_identifier}
use Rattle.hd_lexer.specs.declared.lexer.Kind.TheVariants.{Word, Text, OpenCurly, CloseCurly, Semicolon, End}
use Rattle.hd_layer.specs.declared.fault.LayerWhy.TheVariants.{Syntax, LeftOut, Limit}
use Rattle.hd_layer.specs.declared.limits.Which.TheVariants.{Prims, Depth, Name}
use Rattle.hd_layer.specs.declared.spec.PrimSpec.{PrimSpec}
use Rattle.hd_layer.specs.declared.spec.LayerSpec.{LayerSpec}
use Rattle.hd_layer.specs.Limits.{limit_of}
use Rattle.hd_lexer.specs.Lexing.{Tokens}
use Rattle.hd_usda.specs.reading.Cursor.{◌>>=◌, Fault, Form, is, is_word, rest, text, line_of, fault_in, fault_at, take, past_one}
use Rattle.hd_usda.specs.reading.Loops.{all}
use Rattle.hd_usda.specs.grammar.Metadata.{metadata}
use Rattle.hd_usda.specs.grammar.NameSet.{NameSet, new_name}
use Rattle.hd_usda.specs.grammar.Kept.{PrimProperties, no_properties}
use Rattle.hd_usda.specs.grammar.Rule.{rule_of}
use Rattle.hd_usda.specs.grammar.Property.{property}
use Rattle.hd_usda.specs.reading.Words.{is_long}

-- the prims that ended so far, by their paths, and the number of those that began
pub record LayerBuilder : Type 0 where
  pub prims : List (Path × PrimSpec)
  pub count : ℕ

-- what is in a prim so far, and what was found in the whole text
pub record PrimScope : Type 0 where
  pub names : NameSet
  pub body : PrimProperties
  pub builder : LayerBuilder

-- nothing is in a prim yet
abbrev pub new_scope : LayerBuilder → PrimScope
new_scope builder = record { names = empty; body = no_properties; builder = builder }

-- a prim begins
unfoldable pub is_prim : Tokens → Bool
is_prim ts = is_word (codes "def") ts || is_word (codes "over") ts || is_word (codes "class") ts

-- the type of a prim, which may be missing
unfoldable pub prim_type : Form (List ℕ)
prim_type ts =
    if is Word ts then (if is_long (text ts) then Err (fault_at ts (Limit Name)) else Ok (text ts, rest ts))
    else Ok ([], ts)

-- the next token is the name of a prim
unfoldable pub is_name : Tokens → Bool
is_name ts = is Text ts && is_identifier (text ts)

-- the number of prims with one more, which counts or not
abbrev pub next_count : Bool → ℕ → ℕ → Result ℕ Fault
next_count counts line count =
    if not counts then Ok count
    else (if nat_le (limit_of Prims) count then Err (fault_in line (Limit Prims)) else Ok (count + 1))

-- the names of the prims beside, and the number of all prims
pub record Named : Type 0 where
  pub name : List ℕ
  pub names : NameSet
  pub count : ℕ

-- a name, where so many may be below each other
unfoldable pub prim_name : ℕ → Bool → ℕ → NameSet → Form Named
prim_name room counts count names ts =
    if not (is_name ts) then Err (fault_at ts Syntax)
    else (if room == 0 then Err (fault_at ts (Limit Depth))
    else (if is_long (text ts) then Err (fault_at ts (Limit Name))
    else (do
      n ← next_count counts (line_of ts) count
      seen ← new_name false (text ts) (line_of ts) names
      Ok (record { name = text ts; names = seen; count = n }, rest ts))))

-- what is before the items of a prim
pub record PrimHeader : Type 0 where
  pub kind : List ℕ
  pub named : Named

-- [WORD] STRING [meta] "{"
unfoldable pub prim_header : ℕ → Bool → ℕ → NameSet → Form PrimHeader
prim_header room counts count names ts = do
  kind ← prim_type ts
  named ← prim_name room counts count names kind.1
  u ← metadata named.1
  v ← take OpenCurly u
  Ok (record { kind = kind.0; named = named.0 }, v)

-- a prim that ended, which is kept or not
abbrev pub with_prim : Bool → PrimSpec → LayerBuilder → LayerBuilder
with_prim kept prim builder = if kept then (record builder { prims = insert_entry path_cmp builder.prims prim.path prim }) else builder

-- how a prim is read after its first word, where it counts or not
abbrev pub PrimForm : Type 0
PrimForm = Bool → PrimScope → Form PrimScope

-- a property
unfoldable pub property_item : Bool → PrimScope → Form PrimScope
property_item counts s ts = do
  b ← property (rule_of counts) s.body ts
  Ok (record s { body = b.0 }, b.1)

-- item = (prim | relation | attribute) [";"]
unfoldable pub item : PrimForm → Bool → PrimScope → Form PrimScope
item prim counts s ts =
    if is_word (codes "variantSet") ts then Err (fault_at ts LeftOut)
    else (do
      r ← (if is_prim ts then prim (counts && not (is_word (codes "class") ts)) s (rest ts) else property_item counts s ts)
      Ok (r.0, past_one Semicolon r.1))

-- item* "}"
unfoldable pub body : PrimForm → Bool → LayerBuilder → Form PrimScope
body prim counts builder ts = all CloseCurly (item prim counts) (new_scope builder) ts

-- a prim from its parts
abbrev pub finish_prim : Bool → Path → PrimHeader → PrimScope → PrimScope → PrimScope
finish_prim counts path h s inner = record s {
  names = h.named.names;
  builder = with_prim counts (record { path = path; kind = h.kind; properties = inner.body.values }) inner.builder;
}

-- prim = ("def" | "over" | "class") [WORD] STRING [meta] "{" item* "}", after its first word. Without room the name in the
-- head is a fault, so that the first case gives no prim
unfoldable pub prim : ℕ → Path → PrimForm
prim zero path counts s ts = do
  h ← prim_header 0 counts s.builder.count s.names ts
  Ok (record s { names = h.0.named.names }, h.1)
prim (suc room) path counts s ts = do
  h ← prim_header (suc room) counts s.builder.count s.names ts
  b ← body (prim room (path ++ h.0.named.name ∷ [])) counts (record s.builder { count = h.0.named.count }) h.1
  Ok (finish_prim counts (path ++ h.0.named.name ∷ []) h.0 s b.0, b.1)

-- what is at the root: prims alone
unfoldable pub root_item : PrimScope → Form PrimScope
root_item s ts =
    if is_prim ts then prim (limit_of Depth) [] (not (is_word (codes "class") ts)) s (rest ts)
    else Err (fault_at ts (if is_word (codes "reorder") ts then LeftOut else Syntax))

-- the prims of a layer, in the order of their paths
abbrev pub layer_of : LayerBuilder → LayerSpec
layer_of builder = record { prims = map (λ e. e.1) builder.prims }

-- layer = [meta] prim*, after the header
unfoldable pub layer : Tokens → Result LayerSpec Fault
layer ts = do
  u ← metadata ts
  r ← all End root_item (new_scope (record { prims = []; count = 0 })) u
  Ok (layer_of r.0.builder)
