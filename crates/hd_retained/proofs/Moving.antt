-- Paths with one prefix in place of another.
use Rattle.std.proofs.Common.{◌≡◌, Bool, true, false, cond, if◌then◌else◌, List, [], ◌∷◌, ◌++◌, length, drop, map, Option, Some, None, is_some, refl, sym, ◌∙◌, ap}
use Rattle.std.proofs.lemmas.Cmp.{eq_by_cmp_equiv}
use Rattle.std.proofs.lemmas.Map.Views.{All-from_any}
use Rattle.std.proofs.lemmas.List.Elements.{recursion_from_All}
use Rattle.std.specs.List.{AllByRecursion}
use Rattle.std.specs.Map.{keys_of}
use Rattle.std.specs.Ordering.{eq_by_cmp}
use Rattle.std.specs.FinMap.{get, find, entries, keys, contains_key-keys, from_entries, get-entries, get-from_entries}
use Rattle.std.specs.Cmp.{both_ways}
use Rattle.hd_path.specs.Names.{Name, is_same}
use Rattle.hd_path.proofs.NamePrefixes.{same_text, and_true}
use Rattle.hd_path.specs.Paths.{Path, path_cmp, is_prefix}
use Rattle.hd_path.proofs.Logic.{true_is_not}
use Rattle.hd_scene.proofs.Children.{path_cmp_total}
use Rattle.hd_scene.proofs.Closing.{tied}
use Rattle.hd_retained.specs.Layers.{LayerPrim, Layer}
use Rattle.hd_retained.specs.Edits.{moved_path, moved_prim}
use Rattle.hd_retained.proofs.Closed.{front_prefix}

pub moved_in : (from to p : Path) → is_prefix from p ≡ true → moved_path from to p ≡ to ++ drop (length from) p
moved_in from to p h = ap (λ b. if b then to ++ drop (length from) p else p) h

pub moved_out : (from to p : Path) → is_prefix from p ≡ false → moved_path from to p ≡ p
moved_out from to p h = ap (λ b. if b then to ++ drop (length from) p else p) h

pub drop_front : (front rest : Path) → drop (length front) (front ++ rest) ≡ rest
drop_front [] rest = refl
drop_front (x ∷ front) rest = drop_front front rest

pub prefix_split : (front p : Path) → is_prefix front p ≡ true → front ++ drop (length front) p ≡ p
prefix_split [] p h = refl
prefix_split (x ∷ front) [] h = true_is_not (sym h)
prefix_split (x ∷ front) (y ∷ p) h =
    let both = and_true (is_same x y) (is_prefix front p) h in
    ap (λ (z : Name). z ∷ front ++ drop (length front) p) (same_text x y both.0) ∙ ap (λ (z : Path). y ∷ z) (prefix_split front p both.1)

-- a moved path begins with the new prefix
pub moved_prefix : (from to p : Path) → is_prefix from p ≡ true → is_prefix to (moved_path from to p) ≡ true
moved_prefix from to p h = ap (is_prefix to) (moved_in from to p h) ∙ front_prefix to (drop (length from) p)

-- and moved back it is what it was
pub moved_back : (from to p : Path) → is_prefix from p ≡ true → moved_path to from (moved_path from to p) ≡ p
moved_back from to p h =
    ap (moved_path to from) (moved_in from to p h)
    ∙ moved_in to from (to ++ drop (length from) p) (front_prefix to (drop (length from) p))
    ∙ ap (λ (rest : Path). from ++ rest) (drop_front to (drop (length from) p))
    ∙ prefix_split from p h

pub eq_itself : (p : Path) → eq_by_cmp path_cmp p p ≡ true
eq_itself p = (eq_by_cmp_equiv path_cmp_total).refl p

eq_is : (p q : Path) → p ≡ q → eq_by_cmp path_cmp p q ≡ true
eq_is p q e = ap (eq_by_cmp path_cmp p) (sym e) ∙ eq_itself p

-- nothing is at or below the path
abbrev pub IsFree : Layer → Path → Type 0
IsFree layer to = (q : Path) → is_prefix to q ≡ true → get layer q ≡ None

abbrev IsApart : Path → List (Path × LayerPrim) → Type 0
IsApart to es = AllByRecursion (λ k. is_prefix to k ≡ false) (keys_of es)

not_both : (b : Bool) → (b ≡ true → ⊥) → b ≡ false
not_both true h = absurd (h refl)
not_both false h = refl

entries_apart : (layer : Layer) (to : Path) → IsFree layer to → IsApart to (entries layer)
entries_apart layer to free =
    recursion_from_All (λ k. is_prefix to k ≡ false) (keys layer)
    (All-from_any (eq_by_cmp_equiv path_cmp_total) (λ k. is_prefix to k ≡ false) (keys layer) (λ q listed.
    not_both (is_prefix to q) (λ begins. true_is_not (sym (contains_key-keys layer q ∙ listed) ∙ ap is_some (free q begins)))))

-- at a path after the new prefix is what was at the path that was moved there
found_in : (from to : Path) (es : List (Path × LayerPrim)) (q : Path) → IsApart to es → is_prefix to q ≡ true → find path_cmp q (map (moved_prim from to) es) ≡ find path_cmp (moved_path to from q) es
found_in from to [] q apart begins = refl
found_in from to (e ∷ es) q apart begins =
    ap (λ b. cond b (Some e.1) (find path_cmp q (map (moved_prim from to) es)))
    (both_ways (eq_by_cmp path_cmp q (moved_path from to e.0)) (eq_by_cmp path_cmp (moved_path to from q) e.0)
    (λ h. eq_is (moved_path to from q) e.0 (forth (tied q (moved_path from to e.0) h)))
    (λ h. eq_is q (moved_path from to e.0) (back (tied (moved_path to from q) e.0 h))))
    ∙ ap (cond (eq_by_cmp path_cmp (moved_path to from q) e.0) (Some e.1)) (found_in from to es q apart.1 begins)
  where
    forth : q ≡ moved_path from to e.0 → moved_path to from q ≡ e.0
    forth is = elim (is_prefix from e.0) as (λ b. is_prefix from e.0 ≡ b → moved_path to from q ≡ e.0) [
      | true ↦ λ in_from. ap (moved_path to from) is ∙ moved_back from to e.0 in_from
      | false ↦ λ out. true_is_not (sym begins ∙ ap (is_prefix to) (is ∙ moved_out from to e.0 out) ∙ apart.0)
    ] refl

    back : moved_path to from q ≡ e.0 → q ≡ moved_path from to e.0
    back is = sym (moved_back to from q begins) ∙ ap (moved_path from to) is

-- and at another path what was there, but nothing at or below the old prefix
found_out : (from to : Path) (es : List (Path × LayerPrim)) (q : Path) → is_prefix to q ≡ false → find path_cmp q (map (moved_prim from to) es) ≡ cond (is_prefix from q) None (find path_cmp q es)
found_out from to [] q away = elim (is_prefix from q) as (λ b. ◌≡◌ {A = Option LayerPrim} None (cond b None None)) [ true ↦ refl | false ↦ refl ]
found_out from to (e ∷ es) q away =
    elim (is_prefix from e.0) as (λ b. is_prefix from e.0 ≡ b → find path_cmp q (map (moved_prim from to) (e ∷ es)) ≡ cond (is_prefix from q) None (find path_cmp q (e ∷ es))) [
      | true ↦ λ in_from.
          ap (λ b. cond b (Some e.1) (find path_cmp q (map (moved_prim from to) es))) (not_both (eq_by_cmp path_cmp q (moved_path from to e.0)) (λ h. true_is_not (sym (moved_prefix from to e.0 in_from) ∙ ap (is_prefix to) (sym (tied q (moved_path from to e.0) h)) ∙ away)))
          ∙ found_out from to es q away
          ∙ elim (is_prefix from q) as (λ b. is_prefix from q ≡ b → cond b None (find path_cmp q es) ≡ cond b None (cond (eq_by_cmp path_cmp q e.0) (Some e.1) (find path_cmp q es))) [
            | true ↦ λ _. refl
            | false ↦ λ out. ap (λ b. cond b (Some e.1) (find path_cmp q es)) (sym (not_both (eq_by_cmp path_cmp q e.0) (λ h. true_is_not (sym in_from ∙ ap (is_prefix from) (sym (tied q e.0 h)) ∙ out))))
          ] refl
      | false ↦ λ out.
          ap (λ (k : Path). cond (eq_by_cmp path_cmp q k) (Some e.1) (find path_cmp q (map (moved_prim from to) es))) (moved_out from to e.0 out)
          ∙ ap (cond (eq_by_cmp path_cmp q e.0) (Some e.1)) (found_out from to es q away)
          ∙ elim (eq_by_cmp path_cmp q e.0) as (λ b. eq_by_cmp path_cmp q e.0 ≡ b → cond b (Some e.1) (cond (is_prefix from q) None (find path_cmp q es)) ≡ cond (is_prefix from q) None (cond b (Some e.1) (find path_cmp q es))) [
            | true ↦ λ same. ap (λ b. cond b None (Some e.1)) (sym (ap (is_prefix from) (tied q e.0 same) ∙ out))
            | false ↦ λ _. refl
          ] refl
    ] refl

-- the layer where what is at and below the first path is at and below the second one
abbrev pub renamed : Layer → Path → Path → Layer
renamed layer from to = from_entries (map (moved_prim from to) (entries layer))

pub get-renamed : (layer : Layer) (from to q : Path) → IsFree layer to → get (renamed layer from to) q ≡ cond (is_prefix to q) (get layer (moved_path to from q)) (cond (is_prefix from q) None (get layer q))
get-renamed layer from to q free =
    get-from_entries path_cmp_total (map (moved_prim from to) (entries layer)) q
    ∙ elim (is_prefix to q) as (λ b. is_prefix to q ≡ b → find path_cmp q (map (moved_prim from to) (entries layer)) ≡ cond b (get layer (moved_path to from q)) (cond (is_prefix from q) None (get layer q))) [
      | true ↦ λ begins. found_in from to (entries layer) q (entries_apart layer to free) begins ∙ sym (get-entries layer (moved_path to from q))
      | false ↦ λ away. found_out from to (entries layer) q away ∙ ap (cond (is_prefix from q) None) (sym (get-entries layer q))
    ] refl
