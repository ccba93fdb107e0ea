-- The names below a path of merged scenes.
use Rattle.std.proofs.Common.{◌≡◌, ℕ, ◌+◌, Bool, true, false, ◌||◌, cond, List, [], ◌∷◌, ◌++◌, length, drop, Some, is_some, refl, sym, ◌∙◌, ap, arith}
use Rattle.std.proofs.lemmas.List.{drop_all}
use Rattle.std.specs.Prelude.{slice_get}
use Rattle.std.specs.List.{list_any}
use Rattle.std.specs.Ordering.{eq_by_cmp, is_eq}
use Rattle.std.specs.Cmp.{eq_by_cmp_equiv}
use Rattle.std.specs.Cmp.Lexicographic.{nat_list_cmp_total, texts_ties}
use Rattle.std.specs.FinMap.{get, slice_cmp-IsAntisymmetric, nat_cmp-IsAntisymmetric}
use Rattle.std.specs.BTreeSet.{BTreeSet, contains, IsOrdered}
use Rattle.hd_path.specs.Names.{Name, is_same, byte_order}
use Rattle.hd_scene.specs.Scenes.{Scene, children_of}
use Rattle.hd_scene.proofs.Ascending.{same_ascending}
use Rattle.hd_scene.proofs.Children.{AreChildren-children_of, child_there}
use Rattle.hd_merging.specs.Merges.{merged_scene}
use Rattle.hd_merging.specs.inner.MergedScenes.{there-merged}
use Rattle.hd_merging.proofs.Places.{from_place}
use Rattle.hd_path.specs.Paths.{Path}

-- whether one of the merged scenes has a child
abbrev has_child : List Scene → List (List ℕ) → List ℕ → Bool
has_child ss path name = is_some (get (merged_scene ss) (path ++ name ∷ []))

-- what a set has after a name was put into it
pub name_added : (name other : Name) (new old : Bool) → new ≡ cond (is_eq (byte_order name other)) true old → new ≡ (old || is_same other name)
name_added name other new old is =
    is ∙ ap (λ b. cond b true old) ((eq_by_cmp_equiv nat_list_cmp_total).symm name other ∙ sym (texts_ties other name)) ∙ turned (is_same other name) old
  where
    turned : (a b : Bool) → cond a true b ≡ (b || a)
    turned true true = refl
    turned true false = refl
    turned false true = refl
    turned false false = refl

or_turned : (a b : Bool) → (a || b) ≡ (b || a)
or_turned true true = refl
or_turned true false = refl
or_turned false true = refl
or_turned false false = refl

pub no_names : (ss : List Scene) (i : ℕ) (path : Path) (names : BTreeSet (List ℕ)) → i ≡ length ss → names.keys ≡ [] → (name : Name) → contains byte_order names name ≡ has_child (drop i ss) path name
no_names ss i path names end none name =
    ap (list_any (eq_by_cmp byte_order name)) none
    ∙ sym (there-merged [] (path ++ name ∷ []))
    ∙ ap (λ (z : List Scene). has_child z path name) (sym (drop_all i ss (omega arith)))

-- the names of one scene more
pub names_further : (ss : List Scene) (i n : ℕ) (s : Scene) (path : Path) (more : List (List ℕ)) (old new : List ℕ → Bool) → n ≡ i + 1 → slice_get ss i ≡ Some s → more ≡ children_of s path
    → ((name : Name) → new name ≡ (old name || list_any (is_same name) more))
    → ((name : Name) → old name ≡ has_child (drop n ss) path name) → (name : Name) → new name ≡ has_child (drop i ss) path name
names_further ss i n s path more old new next here are added before name =
    let at : List (List ℕ) = path ++ name ∷ [] in
    added name
    ∙ ap (λ b. b || list_any (is_same name) more) (before name ∙ there-merged (drop n ss) at)
    ∙ ap (λ b. list_any (λ (z : Scene). is_some (get z at)) (drop n ss) || b) (ap (list_any (is_same name)) are ∙ sym (child_there s path name))
    ∙ or_turned (list_any (λ (z : Scene). is_some (get z at)) (drop n ss)) (is_some (get s at))
    ∙ sym (there-merged (s ∷ drop n ss) at)
    ∙ ap (λ (z : List Scene). has_child z path name) (sym (from_place ss i n s next here))

-- names in byte order that are those of the children are the children
pub names_of_merged : (ss : List Scene) (i : ℕ) (path : Path) (names : BTreeSet (List ℕ)) → i ≡ 0 → IsOrdered byte_order names
    → ((name : Name) → contains byte_order names name ≡ has_child (drop i ss) path name) → names.keys ≡ children_of (merged_scene ss) path
names_of_merged ss i path names first ordered there =
    same_ascending nat_list_cmp_total (slice_cmp-IsAntisymmetric nat_cmp-IsAntisymmetric) names.keys (children_of (merged_scene ss) path) ordered (AreChildren-children_of (merged_scene ss) path).ascending (λ name.
    there name
    ∙ ap (λ (k : ℕ). has_child (drop k ss) path name) first
    ∙ child_there (merged_scene ss) path name
    ∙ by_order name (children_of (merged_scene ss) path))
  where
    by_order : (name : Name) (xs : List (List ℕ)) → list_any (is_same name) xs ≡ list_any (eq_by_cmp byte_order name) xs
    by_order name [] = refl
    by_order name (x ∷ xs) = ap (λ b. b || list_any (is_same name) xs) (texts_ties name x) ∙ ap (λ b. eq_by_cmp byte_order name x || b) (by_order name xs)
