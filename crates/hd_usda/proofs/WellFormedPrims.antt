-- The prims that a reader may answer are well formed, and make a layer.
use Rattle.std.proofs.Common.{◌≡◌, ℕ, zero, suc, ◌⊎◌, Bool, true, false, ◌&&◌, not, if◌then◌else◌, List, [], ◌∷◌, ◌++◌, length, Result, Ok, Err, IfOk, inl, inr, refl, sym, ap, subst, ◌∙◌, codes, arith, length-append}
use Rattle.std.proofs.lemmas.Bool.{and_from, lt-ltb}
use Rattle.std.specs.List.{list_all}
use Rattle.hd_lexer.specs.declared.lexer.Kind.TheVariants.{CloseCurly, Semicolon, End}
use Rattle.hd_layer.specs.declared.fault.LayerFault.{LayerFault}
use Rattle.hd_layer.specs.declared.fault.LayerWhy.TheVariants.{Syntax, LeftOut}
use Rattle.hd_layer.specs.declared.spec.PrimSpec.{PrimSpec}
use Rattle.hd_layer.specs.declared.spec.LayerSpec.{LayerSpec}
use Rattle.hd_layer.specs.declared.limits.Which.TheVariants.{Depth}
use Rattle.hd_layer.specs.Limits.{limit_of}
use Rattle.hd_lexer.specs.Lexing.{Tokens, tokens_from}
use Rattle.hd_usda.specs.reading.Cursor.{Fault, is_word, rest, fault_at, past_one, Gives}
use Rattle.hd_usda.specs.reading.Loops.{all}
use Rattle.hd_usda.specs.grammar.Metadata.{metadata}
use Rattle.hd_usda.specs.grammar.NameSet.{NameSet}
use Rattle.hd_usda.specs.grammar.Kept.{PrimProperties}
use Rattle.hd_usda.specs.grammar.Rule.{rule_of}
use Rattle.hd_usda.specs.grammar.Property.{property}
use Rattle.hd_usda.specs.grammar.Prims.{LayerBuilder, PrimScope, new_scope, is_prim, PrimHeader, prim_header, PrimForm, property_item, item, body, finish_prim, prim, root_item, layer_of, layer}
use Rattle.hd_path.specs.Paths.{Path}
use Rattle.hd_layer.specs.WellFormed.{is_below_root, is_property, are_distinct, is_prim_spec, is_layer, has_kinds}
use Rattle.hd_usda.proofs.Answering.{Leaves, Whatever, on_then, on_either, on_ok, on_fault, on_any, on_all}
use Rattle.hd_usda.proofs.LeavingItems.{head_leaves, item_leaves, prim_leaves}
use Rattle.hd_usda.proofs.Leaving.{After, metadata_leaves}
use Rattle.hd_usda.proofs.WordTokens.{Worded, worded_goes_on, tokens_worded}
use Rattle.hd_usda.proofs.WellFormedBodies.{IsBody, names_of, property_keeps}
use Rattle.hd_usda.proofs.WellFormedHeads.{IsHead, head_is, HasType, head_type}
use Rattle.hd_usda.proofs.FoundPrims.{IsFound, Counts, no_counts, then_counts, below_open, open_more, close_one, one_counted, none_open, nothing_found, nothing_is, found_layer, found_kinds}

-- a property changes no prims, and the properties stay well formed
Beside : PrimScope → PrimScope × Tokens → Type 0
Beside s r = (s.builder ≡ r.0.builder) × (IsBody s.body → IsBody r.0.body)

property_keeps_found : (counts : Bool) (s : PrimScope) (ts : Tokens) → Leaves (Beside s) (property_item counts s ts)
unfolding property_item Beside
property_keeps_found counts s ts = on_then (λ b. IsBody s.body → IsBody b.0) (Beside s) (property (rule_of counts) s.body ts) _ (λ b e h. property_keeps (rule_of counts) s.body ts b.0 b.1 h e) (λ b keeps. on_ok (Beside s) (record s { body = b.0 }, b.1) (refl, keeps))

-- an item is a prim or a property
item_is : (form : PrimForm) (counts : Bool) (P : PrimScope → Type 0) (s : PrimScope) (ts : Tokens)
    → Leaves (λ r. P r.0) (form (counts && not (is_word (codes "class") ts)) s (rest ts)) → Leaves (λ r. P r.0) (property_item counts s ts) → Leaves (λ r. P r.0) (item form counts s ts)
unfolding item
item_is form counts P s ts prims properties =
    on_either (λ r. P r.0) (is_word (codes "variantSet") ts) _ _ (on_fault (λ r. P r.0) (fault_at ts LeftOut))
    (on_then (λ r. P r.0) (λ r. P r.0) (if is_prim ts then form (counts && not (is_word (codes "class") ts)) s (rest ts) else property_item counts s ts) _
    (on_either (λ r. P r.0) (is_prim ts) (form (counts && not (is_word (codes "class") ts)) s (rest ts)) (property_item counts s ts) prims properties)
    (λ r h. on_ok (λ r. P r.0) (r.0, past_one Semicolon r.1) h))

-- a prim that does not count leaves the prims as they were
uncounted : (room : ℕ) (path : Path) (s : PrimScope) (ts : Tokens) → Leaves (λ r. s.builder ≡ r.0.builder) (prim room path false s ts)
unfolding prim body Beside
uncounted zero path s ts = on_then Whatever (λ r. s.builder ≡ r.0.builder) (prim_header 0 false s.builder.count s.names ts) _ (on_any (prim_header 0 false s.builder.count s.names ts)) (λ h _. on_ok (λ r. s.builder ≡ r.0.builder) (record s { names = h.0.named.names }, h.1) refl)
uncounted (suc room) path s ts =
    on_then (IsHead false s.builder.count) (λ r. s.builder ≡ r.0.builder) (prim_header (suc room) false s.builder.count s.names ts) _ (head_is (suc room) false s.builder.count s.names ts) (λ h heads.
    on_then (λ b. s.builder ≡ b.0.builder) (λ r. s.builder ≡ r.0.builder) (all CloseCurly (item (prim room (path ++ h.0.named.name ∷ [])) false) (new_scope (record s.builder { count = h.0.named.count })) h.1) _
    (on_all (λ i. s.builder ≡ i.0.builder) CloseCurly (item (prim room (path ++ h.0.named.name ∷ [])) false) (λ i us before. before)
    (λ i us before. item_is (prim room (path ++ h.0.named.name ∷ [])) false (λ j. s.builder ≡ j.builder) i us
    (λ r e. before ∙ uncounted room (path ++ h.0.named.name ∷ []) i (rest us) r e) (λ r e. before ∙ (property_keeps_found false i us r e).0))
    (new_scope (record s.builder { count = h.0.named.count })) h.1 (ap (λ n. record s.builder { count = n }) (heads.same refl)))
    (λ b stays. on_ok (λ r. s.builder ≡ r.0.builder) (finish_prim false (path ++ h.0.named.name ∷ []) h.0 s b.0, b.1) stays))

-- what a prim leaves of what is beside it
record LeavesBeside (Open : Path → Type 0) (s r : PrimScope) : Type 0 where
  same_body : s.body ≡ r.body
  builder : IsFound Open r.builder
  counts : Counts s.builder r.builder

leaves_same : (Open : Path → Type 0) (s r : PrimScope) → IsFound Open s.builder → s.builder ≡ r.builder → s.body ≡ r.body → LeavesBeside Open s r
leaves_same Open s r h same body = record { same_body = body; builder = subst (IsFound Open) same h; counts = subst (Counts s.builder) same (no_counts s.builder) }

-- what holds between the items of a prim
record Within (Open : Path → Type 0) (start : LayerBuilder) (s : PrimScope) : Type 0 where
  used : IsBody s.body
  builder : IsFound Open s.builder
  counts : Counts start s.builder

after_prim : (Open : Path → Type 0) (start : LayerBuilder) (s r : PrimScope) → Within Open start s → LeavesBeside Open s r → Within Open start r
after_prim Open start s r h l = record { used = subst IsBody l.same_body h.used; builder = l.builder; counts = then_counts start s.builder r.builder h.counts l.counts }

after_property : (Open : Path → Type 0) (start : LayerBuilder) (s r : PrimScope) → Within Open start s → s.builder ≡ r.builder → IsBody r.body → Within Open start r
after_property Open start s r h same body = record { used = body; builder = subst (IsFound Open) same h.builder; counts = subst (Counts start) same h.counts }

begins_within : (Open : Path → Type 0) (f : LayerBuilder) → IsFound Open f → Within Open f (new_scope f)
begins_within Open f h = record { used = record { used = refl; once = refl; seen = refl }; builder = h; counts = no_counts f }

-- a path at which prims may be read: the root, or one of a prim that is open
abbrev IsWay : (Path → Type 0) → Path → Type 0
IsWay Open path = (path ≡ []) ⊎ Open path

longer_way : (Open : Path → Type 0) (path : Path) (name : List ℕ) → IsWay (below_open Open (path ++ name ∷ [])) (path ++ name ∷ [])
longer_way Open path name = inr (inr refl)

own_path : (path : Path) (name : List ℕ) → is_below_root (path ++ name ∷ []) ≡ true
own_path path name = let size = length-append path (name ∷ []) in lt-ltb 0 (length (path ++ name ∷ [])) (omega (arith, size))

-- the prim that ends is well formed
spec_is : (own : Path) (kind : List ℕ) (b : PrimProperties) → is_below_root own ≡ true → IsBody b → is_prim_spec (record { path = own; kind = kind; properties = b.values }) ≡ true
spec_is own kind b path h =
    and_from (is_below_root own && list_all is_property b.values) (are_distinct (names_of b.values))
    (and_from (is_below_root own) (list_all is_property b.values) path h.used) h.once

-- between the items of a prim, each word among the tokens that are left is an identifier too
abbrev Between : (Path → Type 0) → LayerBuilder → PrimScope × Tokens → Type 0
Between Open start q = Within Open start q.0 × Worded q.1

-- what is said of a prim after its first word
abbrev Kept : (Path → Type 0) → PrimScope → PrimScope × Tokens → Type 0
Kept Open s r = LeavesBeside Open s r.0

prim_between : (Open : Path → Type 0) (start : LayerBuilder) (s : PrimScope) (o : Result (PrimScope × Tokens) Fault) → Within Open start s → Leaves (Kept Open s) o → Leaves (λ r. Within Open start r.0) o
prim_between Open start s o h kept r e = after_prim Open start s r.0 h (kept r e)

items_keep : (form : PrimForm) (Open : Path → Type 0) (start : LayerBuilder)
    → ((counts : Bool) (s : PrimScope) (ts : Tokens) → Worded ts → IsFound Open s.builder → Leaves (Kept Open s) (form counts s ts))
    → ((counts : Bool) (s : PrimScope) (ts : Tokens) → Worded ts → Leaves (After Worded) (form counts s ts))
    → (ts : Tokens) → IsFound Open start → Worded ts → Leaves (Between Open start) (all CloseCurly (item form true) (new_scope start) ts)
unfolding Beside
items_keep form Open start kept leaves ts h w =
    on_all (Between Open start) CloseCurly (item form true) (λ s us before. (before.0, worded_goes_on us before.1))
    (λ s us before r e. (
      item_is form true (Within Open start) s us
          (prim_between Open start s (form (not (is_word (codes "class") us)) s (rest us)) before.0 (kept (not (is_word (codes "class") us)) s (rest us) (worded_goes_on us before.1) before.0.builder))
          (λ r e. let beside = property_keeps_found true s us r e in after_property Open start s r.0 before.0 beside.0 (beside.1 before.0.used)) r e,
      item_leaves Worded worded_goes_on form leaves true s us before.1 r e,
    ))
    (new_scope start) ts (begins_within Open start h, w)

-- what is said of a prim's head, where it counts
abbrev Headed : ℕ → PrimHeader × Tokens → Type 0
Headed count h = IsHead true count h × HasType h × Worded h.1

heads_are : (room count : ℕ) (names : NameSet) (ts : Tokens) → Worded ts → Leaves (Headed count) (prim_header room true count names ts)
heads_are room count names ts w h e = (head_is room true count names ts h e, head_type room true count names ts w h e, head_leaves Worded worded_goes_on room true count names ts w h e)

-- a prim that ends, with those below it
ended_is : (Open : Path → Type 0) (path : Path) (h : PrimHeader × Tokens) (s inner : PrimScope) → IsWay Open path → Headed s.builder.count h
    → Within (below_open Open (path ++ h.0.named.name ∷ [])) (record s.builder { count = h.0.named.count }) inner → LeavesBeside Open s (finish_prim true (path ++ h.0.named.name ∷ []) h.0 s inner)
ended_is Open path h s inner way heads within =
    let name : List ℕ = h.0.named.name in
    let v : PrimSpec = record { path = path ++ name ∷ []; kind = h.0.kind; properties = inner.body.values } in
    let good = spec_is (path ++ name ∷ []) h.0.kind inner.body (own_path path name) within.used in
    record {
      same_body = refl;
      builder = close_one Open path name v inner.builder way refl good heads.1 within.builder;
      counts = one_counted s.builder inner.builder h.0.named.count v (heads.0.counted refl) within.counts;
    }

-- a prim leaves the properties beside it as they were
same_beside : (room : ℕ) (path : Path) (counts : Bool) (s : PrimScope) (ts : Tokens) → Leaves (λ r. s.body ≡ r.0.body) (prim room path counts s ts)
unfolding prim
same_beside zero path counts s ts = on_then Whatever (λ r. s.body ≡ r.0.body) (prim_header 0 counts s.builder.count s.names ts) _ (on_any (prim_header 0 counts s.builder.count s.names ts)) (λ h _. on_ok (λ r. s.body ≡ r.0.body) (record s { names = h.0.named.names }, h.1) refl)
same_beside (suc room) path counts s ts =
    on_then Whatever (λ r. s.body ≡ r.0.body) (prim_header (suc room) counts s.builder.count s.names ts) _ (on_any (prim_header (suc room) counts s.builder.count s.names ts)) (λ h _.
    on_then Whatever (λ r. s.body ≡ r.0.body) (body (prim room (path ++ h.0.named.name ∷ [])) counts (record s.builder { count = h.0.named.count }) h.1) _ (on_any (body (prim room (path ++ h.0.named.name ∷ [])) counts (record s.builder { count = h.0.named.count }) h.1)) (λ b _.
    on_ok (λ r. s.body ≡ r.0.body) (finish_prim counts (path ++ h.0.named.name ∷ []) h.0 s b.0, b.1) refl))

-- a prim that counts is kept with those below it
counted : (room : ℕ) (Open : Path → Type 0) (path : Path) (counts : Bool) (s : PrimScope) (ts : Tokens) → IsWay Open path → Worded ts → IsFound Open s.builder → Leaves (Kept Open s) (prim room path counts s ts)
unfolding prim body
counted zero Open path counts s ts way w f =
    on_then Whatever (Kept Open s) (prim_header 0 counts s.builder.count s.names ts) _ (on_any (prim_header 0 counts s.builder.count s.names ts)) (λ h _. on_ok (Kept Open s) (record s { names = h.0.named.names }, h.1) (leaves_same Open s (record s { names = h.0.named.names }) f refl refl))
counted (suc room) Open path false s ts way w f =
    (λ r e. leaves_same Open s r.0 f (uncounted (suc room) path s ts r e) (same_beside (suc room) path false s ts r e))
counted (suc room) Open path true s ts way w f =
    on_then (Headed s.builder.count) (Kept Open s) (prim_header (suc room) true s.builder.count s.names ts) _ (heads_are (suc room) s.builder.count s.names ts w) (λ h heads.
    on_then (Between (below_open Open (path ++ h.0.named.name ∷ [])) (record s.builder { count = h.0.named.count })) (Kept Open s)
    (all CloseCurly (item (prim room (path ++ h.0.named.name ∷ [])) true) (new_scope (record s.builder { count = h.0.named.count })) h.1) _
    (items_keep (prim room (path ++ h.0.named.name ∷ [])) (below_open Open (path ++ h.0.named.name ∷ [])) (record s.builder { count = h.0.named.count })
    (λ counts i us w f. counted room (below_open Open (path ++ h.0.named.name ∷ [])) (path ++ h.0.named.name ∷ []) counts i us (longer_way Open path h.0.named.name) w f)
    (prim_leaves Worded worded_goes_on room (path ++ h.0.named.name ∷ [])) h.1 (open_more Open (path ++ h.0.named.name ∷ []) s.builder h.0.named.count f) heads.2)
    (λ b between. on_ok (Kept Open s) (finish_prim true (path ++ h.0.named.name ∷ []) h.0 s b.0, b.1) (ended_is Open path h s b.0 way heads between.0)))

root_keeps : (start : LayerBuilder) (s : PrimScope) (ts : Tokens) → Between none_open start (s, ts) → Leaves (Between none_open start) (root_item s ts)
unfolding root_item
root_keeps start s ts h =
    on_either (Between none_open start) (is_prim ts) (prim (limit_of Depth) [] (not (is_word (codes "class") ts)) s (rest ts)) _
    (λ r e. (
      after_prim none_open start s r.0 h.0 (counted (limit_of Depth) none_open [] (not (is_word (codes "class") ts)) s (rest ts) (inl refl) (worded_goes_on ts h.1) h.0.builder r e),
      prim_leaves Worded worded_goes_on (limit_of Depth) [] (not (is_word (codes "class") ts)) s (rest ts) (worded_goes_on ts h.1) r e,
    ))
    (on_fault (Between none_open start) (fault_at ts (if is_word (codes "reorder") ts then LeftOut else Syntax)))

abbrev IsLayer : LayerSpec → Type 0
IsLayer l = (is_layer l ≡ true) × (has_kinds l ≡ true)

layer_is : (ts : Tokens) → Worded ts → Leaves IsLayer (layer ts)
unfolding layer nothing_found
layer_is ts w =
    on_then Worded IsLayer (metadata ts) _ (metadata_leaves Worded worded_goes_on ts w) (λ u words.
    on_then (Between none_open nothing_found) IsLayer (all End root_item (new_scope nothing_found) u) _
    (on_all (Between none_open nothing_found) End root_item (λ s us h. (h.0, worded_goes_on us h.1)) (root_keeps nothing_found) (new_scope nothing_found) u (begins_within none_open nothing_found nothing_is, words)) (λ r between.
    on_ok IsLayer (layer_of r.0.builder) (found_layer r.0.builder between.0.builder between.0.counts, found_kinds r.0.builder between.0.builder)))

-- a layer that a function returned, where it was to be read from a text, is well formed
pub layer_given : (r : Result LayerSpec LayerFault) (ts : Tokens) (line : ℕ) (bytes : List ℕ) → ts ≡ tokens_from line bytes → Gives (λ l. l) r (layer ts) → IfOk r (λ l. is_layer l ≡ true)
layer_given (Ok l) ts line bytes from e = (layer_is ts (subst Worded (sym from) (tokens_worded line bytes)) l e).0
layer_given (Err fault) ts line bytes from e = tt

-- and so are the types of its prims
pub kinds_given : (r : Result LayerSpec LayerFault) (ts : Tokens) (line : ℕ) (bytes : List ℕ) → ts ≡ tokens_from line bytes → Gives (λ l. l) r (layer ts) → IfOk r (λ l. has_kinds l ≡ true)
kinds_given (Ok l) ts line bytes from e = (layer_is ts (subst Worded (sym from) (tokens_worded line bytes)) l e).1
kinds_given (Err fault) ts line bytes from e = tt
