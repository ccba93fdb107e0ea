-- The prims that were found so far, and the layer that they make.
use Rattle.std.proofs.Common.{◌≡◌, ℕ, suc, ◌+◌, ◌-◌, ◌<◌, ◌≤◌, ◌⊎◌, true, ◌&&◌, ◌==◌, nat_le, List, [], ◌∷◌, ◌++◌, map, length, take, inl, inr, refl, sym, ap, subst, ◌∙◌, arith, length-append}
use Rattle.std.proofs.lemmas.Bool.{and_from, or_cases, or_left, or_right, le-leb, eq-eqb}
use Rattle.std.specs.List.{list_all}
use Rattle.std.specs.Ordering.{is_eq}
use Rattle.hd_layer.specs.declared.limits.Which.TheVariants.{Prims}
use Rattle.hd_layer.specs.declared.spec.PrimSpec.{PrimSpec}
use Rattle.hd_layer.specs.Limits.{limit_of}
use Rattle.hd_usda.specs.reading.Cursor.{rest}
use Rattle.hd_usda.specs.reading.Loops.{all}
use Rattle.hd_path.specs.Paths.{path_cmp, Path}
use Rattle.hd_usda.specs.grammar.Prims.{LayerBuilder, with_prim, layer_of}
use Rattle.hd_layer.specs.WellFormed.{is_prim_spec, ascend, has_parent, is_layer, is_kind, has_kinds}
use Rattle.hd_usda.proofs.OrderedPaths.{Entries, keys, with_entry, equal_path, itself, values_pass, stay_ordered, among, one_more, one_longer, IsKeyed, stay_keyed, keyed_paths}

-- the path above
abbrev pub parent : Path → Path
parent p = take (length p - 1) p

-- each prim is at the root, below another, or below one that is still open
pub Parented : (Path → Type 0) → Entries → Type 0
Parented Open es = (p : Path) → among (keys es) p ≡ true → (length p ≡ 1) ⊎ ((among (keys es) (parent p) ≡ true) ⊎ Open (parent p))

-- the prims so far are well formed, but for the parents that are still open
pub record IsFound (Open : Path → Type 0) (f : LayerBuilder) : Type 0 where
  pub keyed : IsKeyed f.prims
  pub ordered : ascend (keys f.prims) ≡ true
  pub specs : list_all is_prim_spec (map (λ e. e.1) f.prims) ≡ true
  pub kinds : list_all (λ p. is_kind p.kind) (map (λ e. e.1) f.prims) ≡ true
  pub parents : Parented Open f.prims

-- prims came, and not more than were counted
pub record Counts (before after : LayerBuilder) : Type 0 where
  pub fewer : length after.prims + before.count ≤ length before.prims + after.count
  pub limited : before.count ≤ 65536 → after.count ≤ 65536

pub no_counts : (f : LayerBuilder) → Counts f f
no_counts f = record { fewer = omega arith; limited = λ h. h }

pub then_counts : (f g h : LayerBuilder) → Counts f g → Counts g h → Counts f h
then_counts f g h a b = record { fewer = omega (arith, a.fewer, b.fewer); limited = λ l. b.limited (a.limited l) }

-- below a path that is open too
abbrev pub below_open : (Path → Type 0) → Path → Path → Type 0
below_open Open own p = Open p ⊎ (p ≡ own)

pub open_more : (Open : Path → Type 0) (own : Path) (f : LayerBuilder) (n : ℕ) → IsFound Open f → IsFound (below_open Open own) (record f { count = n })
unfolding Parented
open_more Open own f n h = record { keyed = h.keyed; ordered = h.ordered; specs = h.specs; kinds = h.kinds; parents = λ p there. widen (length p ≡ 1) (among (keys f.prims) (parent p) ≡ true) (parent p) (h.parents p there) }
  where
    widen : (A B : Type 0) (q : Path) → A ⊎ (B ⊎ Open q) → A ⊎ (B ⊎ (Open q ⊎ (q ≡ own)))
    widen A B q (inl a) = inl a
    widen A B q (inr (inl b)) = inr (inl b)
    widen A B q (inr (inr o)) = inr (inr (inl o))

parent_of : (path : Path) (name : List ℕ) → parent (path ++ name ∷ []) ≡ path
parent_of path name = let size = length-append path (name ∷ []) in let less : length (path ++ name ∷ []) - 1 ≡ length path = omega (arith, size) in ap (λ n. take n (path ++ name ∷ [])) less ∙ front path
  where
    front : (p : Path) → take (length p) (p ++ name ∷ []) ≡ p
    front [] = refl
    front (n ∷ p) = ap (λ q. n ∷ q) (front p)

-- the paths with one more
abbrev with_one : LayerBuilder → PrimSpec → List Path
with_one f v = keys (with_entry f.prims v.path v)

-- a prim that ends is among the others from then on
pub close_one : (Open : Path → Type 0) (path : Path) (name : List ℕ) (v : PrimSpec) (f : LayerBuilder) → (path ≡ []) ⊎ Open path → v.path ≡ path ++ name ∷ [] → is_prim_spec v ≡ true → is_kind v.kind ≡ true
    → IsFound (below_open Open (path ++ name ∷ [])) f → IsFound Open (with_prim true v f)
unfolding Parented
close_one Open path name v f above own good kind h = record {
  keyed = stay_keyed f.prims v h.keyed;
  ordered = stay_ordered f.prims v.path v h.ordered;
  specs = values_pass is_prim_spec f.prims v.path v h.specs good;
  kinds = values_pass (λ p. is_kind p.kind) f.prims v.path v h.kinds kind;
  parents = λ p there. case p (or_cases (is_eq (path_cmp p v.path)) (among (keys f.prims) p) (sym (one_more f.prims v.path v p) ∙ there));
}
  where
    kept : (q : Path) → among (keys f.prims) q ≡ true → among (with_one f v) q ≡ true
    kept q there = one_more f.prims v.path v q ∙ or_right (is_eq (path_cmp q v.path)) (among (keys f.prims) q) there

    closed : (q : Path) → q ≡ path ++ name ∷ [] → among (with_one f v) q ≡ true
    closed q same = let here : q ≡ v.path = same ∙ sym own in one_more f.prims v.path v q ∙ or_left (is_eq (path_cmp q v.path)) (among (keys f.prims) q) (ap (λ r. is_eq (path_cmp r v.path)) here ∙ itself v.path)

    at_own : (q : Path) → q ≡ path ++ name ∷ [] → (path ≡ []) ⊎ Open path → (length q ≡ 1) ⊎ ((among (with_one f v) (parent q) ≡ true) ⊎ Open (parent q))
    at_own q same (inl root) = inl (ap length same ∙ ap (λ r. length (r ++ name ∷ [])) root)
    at_own q same (inr open_) = inr (inr (subst Open (sym (ap parent same ∙ parent_of path name)) open_))

    below : (q : Path) → (length q ≡ 1) ⊎ ((among (keys f.prims) (parent q) ≡ true) ⊎ (Open (parent q) ⊎ (parent q ≡ path ++ name ∷ []))) → (length q ≡ 1) ⊎ ((among (with_one f v) (parent q) ≡ true) ⊎ Open (parent q))
    below q (inl one) = inl one
    below q (inr (inl there)) = inr (inl (kept (parent q) there))
    below q (inr (inr (inl open_))) = inr (inr open_)
    below q (inr (inr (inr same))) = inr (inl (closed (parent q) same))

    case : (p : Path) → (is_eq (path_cmp p v.path) ≡ true) ⊎ (among (keys f.prims) p ≡ true) → (length p ≡ 1) ⊎ ((among (with_one f v) (parent p) ≡ true) ⊎ Open (parent p))
    case p (inl same) = at_own p (equal_path p v.path same ∙ own) above
    case p (inr there) = below p (h.parents p there)

-- a prim that ends was counted
pub one_counted : (s inner : LayerBuilder) (n : ℕ) (v : PrimSpec) → (n ≡ s.count + 1) × (s.count < 65536) → Counts (record s { count = n }) inner → Counts s (with_prim true v inner)
one_counted s inner n v counted h =
    let more = one_longer inner.prims v.path v in
    let fewer = h.fewer in
    let one : n ≡ s.count + 1 = counted.0 in
    let room : s.count < 65536 = counted.1 in
    record { fewer = omega (arith, more, fewer, one); limited = λ l. h.limited (omega (arith, one, room)) }

-- no path is open
pub none_open : Path → Type 0
none_open p = ⊥

all_parents : (all rest : List Path) → ((p : Path) → among rest p ≡ true → has_parent all p ≡ true) → list_all (has_parent all) rest ≡ true
all_parents all [] h = refl
all_parents all (p ∷ rest) h = and_from (has_parent all p) (list_all (has_parent all) rest) (h p (or_left (is_eq (path_cmp p p)) (among rest p) (itself p)))
    (all_parents all rest (λ q there. h q (or_right (is_eq (path_cmp q p)) (among rest q) there)))

keys_have_parents : (es : Entries) → Parented none_open es → list_all (has_parent (keys es)) (keys es) ≡ true
unfolding Parented none_open
keys_have_parents es h = all_parents (keys es) (keys es) (λ p there. has p (h p there))
  where
    has : (p : Path) → (length p ≡ 1) ⊎ ((among (keys es) (parent p) ≡ true) ⊎ ⊥) → has_parent (keys es) p ≡ true
    has p (inl one) = or_left (length p == 1) (among (keys es) (parent p)) (eq-eqb (length p) 1 one)
    has p (inr (inl there)) = or_right (length p == 1) (among (keys es) (parent p)) there
    has p (inr (inr never)) = absurd never

unfoldable pub nothing_found : LayerBuilder
nothing_found = record { prims = []; count = 0 }

pub nothing_is : IsFound none_open nothing_found
unfolding nothing_found Parented
nothing_is = record { keyed = tt; ordered = refl; specs = refl; kinds = refl; parents = λ p there. absurd (cc) }

size_of : (es : Entries) → length (keys es) ≡ length es
size_of [] = refl
size_of (e ∷ es) = ap suc (size_of es)

pub found_layer : (f : LayerBuilder) → IsFound none_open f → Counts nothing_found f → is_layer (layer_of f) ≡ true
unfolding nothing_found
found_layer f h c =
    let few = c.fewer in
    let bound : f.count ≤ 65536 = c.limited (omega arith) in
    let size = size_of f.prims in
    let short : length (keys f.prims) ≤ limit_of Prims = omega (arith, few, bound, size) in
    let first : (nat_le (length (keys f.prims)) (limit_of Prims) && list_all is_prim_spec (map (λ e. e.1) f.prims)) ≡ true = and_from (nat_le (length (keys f.prims)) (limit_of Prims)) (list_all is_prim_spec (map (λ e. e.1) f.prims)) (le-leb (length (keys f.prims)) (limit_of Prims) short) h.specs in
    let second : (nat_le (length (keys f.prims)) (limit_of Prims) && list_all is_prim_spec (map (λ e. e.1) f.prims) && ascend (keys f.prims)) ≡ true = and_from (nat_le (length (keys f.prims)) (limit_of Prims) && list_all is_prim_spec (map (λ e. e.1) f.prims)) (ascend (keys f.prims)) first h.ordered in
    let third = and_from (nat_le (length (keys f.prims)) (limit_of Prims) && list_all is_prim_spec (map (λ e. e.1) f.prims) && ascend (keys f.prims)) (list_all (has_parent (keys f.prims)) (keys f.prims)) second (keys_have_parents f.prims h.parents) in
    subst (λ ps. (nat_le (length ps) (limit_of Prims) && list_all is_prim_spec (map (λ e. e.1) f.prims) && ascend ps && list_all (has_parent ps) ps) ≡ true) (keyed_paths f.prims h.keyed) third

pub found_kinds : (f : LayerBuilder) → IsFound none_open f → has_kinds (layer_of f) ≡ true
found_kinds f h = h.kinds
