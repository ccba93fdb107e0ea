-- Laws of the names below a path.
use Rattle.std.proofs.Common.{◌≡◌, ◌≢◌, ◌↔◌, ℕ, ◌<◌, Bool, true, false, if◌then◌else◌, ◌&&◌, ◌||◌, List, [], ◌∷◌, ◌++◌, length, take, ◌+◌, slice_index_or, zero, suc, Option, Some, None, is_some, Contains, refl, sym, ◌∙◌, ap, subst, arith, append_assoc}
use Rattle.std.proofs.lemmas.Cmp.{lists_total}
use Rattle.std.proofs.lemmas.Map.Views.{Contains-from_any}
use Rattle.std.specs.List.{AllByRecursion, list_any, filter_map, cons_option}
use Rattle.std.specs.List.Sorted.{IsStrictlySortedBy}
use Rattle.std.specs.Ordering.{nat_cmp, eq_by_cmp, ordering_then}
use Rattle.std.specs.declared.cmp.Ordering.{Ordering}
use Rattle.std.specs.declared.cmp.Ordering.TheVariants.{Less, Equal, Greater}
use Rattle.std.specs.Cmp.{IsTotalOrder, tied_itself, both_ways}
use Rattle.std.specs.Cmp.Lexicographic.{slice_cmp, nat_list_cmp_total, texts_ties}
use Rattle.std.specs.FinMap.{get, keys, contains_key-keys, slice_cmp-IsAntisymmetric, nat_cmp-IsAntisymmetric, IsAntisymmetric}
use Rattle.std.proofs.Math.Bool.{and-true, and-false, or-true}
use Rattle.hd_path.specs.inner.Comparing.{names_ties}
use Rattle.hd_path.specs.Paths.{Path, path_cmp}
use Rattle.hd_path.specs.Names.{Name, is_same}
use Rattle.hd_path.proofs.NamePrefixes.{same_text, same_itself, split_last}
use Rattle.hd_scene.specs.Scenes.{Scene, child_name, children_of, AreChildren, IsClosed}
use Rattle.hd_scene.specs.Tells.{is_same_path}
use Rattle.hd_scene.proofs.Ascending.{keys_ascend, same_ascending}

pub path_cmp_total : IsTotalOrder path_cmp
path_cmp_total = lists_total nat_list_cmp_total

-- paths that tie are equal
pub path_cmp_exact : IsAntisymmetric path_cmp
path_cmp_exact = slice_cmp-IsAntisymmetric (slice_cmp-IsAntisymmetric nat_cmp-IsAntisymmetric)

-- the path of a child is the parent's and its name
pub child_is : (path key : Path) (name : Name) → child_name path key ≡ Some name → key ≡ path ++ name ∷ []
child_is [] [] name h = cc
child_is [] (x ∷ []) name h = cc
child_is [] (x ∷ y ∷ key) name h = cc
child_is (x ∷ path) [] name h = cc
child_is (x ∷ path) (y ∷ key) name h =
    elim (is_same x y) as (λ b. is_same x y ≡ b → (if b then child_name path key else None) ≡ Some name → y ∷ key ≡ x ∷ path ++ name ∷ []) [
      | true ↦ λ same is. ap (λ (z : Name). z ∷ key) (sym (same_text x y same)) ∙ ap (λ (rest : Path). x ∷ rest) (child_is path key name is)
      | false ↦ λ _ is. cc
    ] refl h

then_equal : (r : Ordering) → ordering_then r Equal ≡ r
then_equal Less = refl
then_equal Equal = refl
then_equal Greater = refl

-- two paths with one parent are as their names do
siblings_cmp : (path : Path) (a b : Name) → path_cmp (path ++ a ∷ []) (path ++ b ∷ []) ≡ slice_cmp nat_cmp a b
siblings_cmp [] a b = then_equal (slice_cmp nat_cmp a b)
siblings_cmp (x ∷ path) a b = ap (λ r. ordering_then r (path_cmp (path ++ a ∷ []) (path ++ b ∷ []))) (tied_itself nat_list_cmp_total x) ∙ siblings_cmp path a b

names_above : (path : Path) (ks : List (List ℕ)) (ps : List Path) (name : Name) → child_name path ks ≡ Some name → AllByRecursion (λ y. path_cmp ks y ≡ Less) ps → AllByRecursion (λ y. slice_cmp nat_cmp name y ≡ Less) (filter_map (child_name path) ps)
names_above path k [] name is h = tt
names_above path k (p ∷ ps) name is h =
    let rest = names_above path k ps name is h.1 in
    elim (child_name path p) as (λ (o : Option (List ℕ)). child_name path p ≡ o → AllByRecursion (λ y. slice_cmp nat_cmp name y ≡ Less) (cons_option o (filter_map (child_name path) ps))) [
      | None ↦ λ _. rest
      | Some other ↦ λ also. (sym (siblings_cmp path name other) ∙ ap (λ (q : Path). path_cmp q (path ++ other ∷ [])) (sym (child_is path k name is)) ∙ ap (path_cmp k) (sym (child_is path p other also)) ∙ h.0, rest)
    ] refl

names_ascend : (path : Path) (ks : List Path) → IsStrictlySortedBy path_cmp ks → IsStrictlySortedBy (slice_cmp nat_cmp) (filter_map (child_name path) ks)
unfolding IsStrictlySortedBy
names_ascend path [] h = tt
names_ascend path (k ∷ ks) h =
    let rest = names_ascend path ks h.1 in
    elim (child_name path k) as (λ (o : Option (List ℕ)). child_name path k ≡ o → IsStrictlySortedBy (slice_cmp nat_cmp) (cons_option o (filter_map (child_name path) ks))) [
      | None ↦ λ _. rest
      | Some name ↦ λ is. (names_above path k ks name is h.0, rest)
    ] refl

-- whether the name is the one that is there
abbrev is_named : List ℕ → Option (List ℕ) → Bool
is_named name None = false
is_named name (Some other) = is_same name other

child_test : (path key : Path) (name : Name) → is_same_path (path ++ name ∷ []) key ≡ is_named name (child_name path key)
child_test [] [] name = refl
child_test [] (x ∷ []) name = and-true (is_same name x)
child_test [] (x ∷ y ∷ key) name = and-false (is_same name x)
child_test (x ∷ path) [] name = refl
child_test (x ∷ path) (y ∷ key) name =
    elim (is_same x y) as (λ b. (b && is_same_path (path ++ name ∷ []) key) ≡ is_named name (if b then child_name path key else None)) [
      | true ↦ child_test path key name
      | false ↦ refl
    ]

named_in : (name : Name) (o : Option (List ℕ)) (names : List Name) → list_any (is_same name) (cons_option o names) ≡ (is_named name o || list_any (is_same name) names)
named_in name None names = refl
named_in name (Some other) names = refl

child_among : (path : Path) (ks : List Path) (name : Name) → list_any (eq_by_cmp path_cmp (path ++ name ∷ [])) ks ≡ list_any (is_same name) (filter_map (child_name path) ks)
child_among path [] name = refl
child_among path (k ∷ ks) name =
    ap (λ b. b || list_any (eq_by_cmp path_cmp (path ++ name ∷ [])) ks) (sym (names_ties (path ++ name ∷ []) k) ∙ child_test path k name)
    ∙ ap (λ b. is_named name (child_name path k) || b) (child_among path ks name)
    ∙ sym (named_in name (child_name path k) (filter_map (child_name path) ks))

any_of : (name : Name) (names : List Name) (k : ℕ) → k < length names → slice_index_or names k name ≡ name → list_any (is_same name) names ≡ true
any_of name [] k l e = absurd (omega arith)
any_of name (x ∷ names) zero l e = ap (λ b. b || list_any (is_same name) names) (ap (is_same name) e ∙ same_itself name)
any_of name (x ∷ names) (suc k) l e = ap (λ b. is_same name x || b) (any_of name names k (omega arith) e) ∙ or-true (is_same name x)

-- whether a child is there, by its name among those of the children
pub child_there : (scene : Scene) (path : Path) (name : Name) → is_some (get scene (path ++ name ∷ [])) ≡ list_any (is_same name) (children_of scene path)
child_there scene path name = contains_key-keys scene (path ++ name ∷ []) ∙ child_among path (keys scene) name

contains_any : (names : List Name) (name : Name) → Contains names name ↔ (list_any (is_same name) names ≡ true)
contains_any names name = (λ c. any_of name names c.0 c.1 c.2, λ h. Contains-from_any same_text name names h)

pub AreChildren-children_of : (scene : Scene) (path : Path) → AreChildren scene path (children_of scene path)
AreChildren-children_of scene path = record {
  ascending = names_ascend path (keys scene) (keys_ascend scene);
  there = λ name.
      let among = contains_any (children_of scene path) name in
      (λ c. child_there scene path name ∙ among.0 c, λ t. among.1 (sym (child_there scene path name) ∙ t));
}

pub children_of-unique : (scene : Scene) (path : Path) (names : List Name) → AreChildren scene path names → names ≡ children_of scene path
children_of-unique scene path names are =
    let own = AreChildren-children_of scene path in
    let is_in : List ℕ → List (List ℕ) → Bool = λ q xs. list_any (eq_by_cmp (slice_cmp nat_cmp) q) xs in
    same_ascending nat_list_cmp_total (slice_cmp-IsAntisymmetric nat_cmp-IsAntisymmetric) names (children_of scene path) are.ascending own.ascending (λ q.
    let mine = contains_any names q in
    let others = contains_any (children_of scene path) q in
    sym (by_same q names)
    ∙ both_ways (list_any (is_same q) names) (list_any (is_same q) (children_of scene path)) (λ h. others.0 ((own.there q).1 ((are.there q).0 (mine.1 h)))) (λ h. mine.0 ((are.there q).1 ((own.there q).0 (others.1 h))))
    ∙ by_same q (children_of scene path))
  where
    by_same : (q : List ℕ) (xs : List (List ℕ)) → list_any (is_same q) xs ≡ list_any (eq_by_cmp (slice_cmp nat_cmp) q) xs
    by_same q [] = refl
    by_same q (x ∷ xs) = ap (λ b. b || list_any (is_same q) xs) (texts_ties q x) ∙ ap (λ b. eq_by_cmp (slice_cmp nat_cmp) q x || b) (by_same q xs)

pub children_of-absent : (scene : Scene) (path : Path) → IsClosed scene → path ≢ [] → get scene path ≡ None → children_of scene path ≡ []
children_of-absent scene [] closed no_root absent = absurd (no_root refl)
children_of-absent scene (x ∷ path) closed no_root absent = none (children_of scene (x ∷ path)) (λ name. sym (child_there scene (x ∷ path) name))
  where
    none : (names : List Name) → ((name : Name) → list_any (is_same name) names ≡ is_some (get scene ((x ∷ path) ++ name ∷ []))) → names ≡ []
    none [] h = refl
    none (name ∷ names) h = absurd (
        let parts = split_last x path in
        let front : List (List ℕ) = parts.0 in
        let last : List ℕ = parts.1 in
        let there : is_some (get scene ((x ∷ path) ++ name ∷ [])) ≡ true = sym (h name) ∙ ap (λ b. b || list_any (is_same name) names) (same_itself name) in
        let at : (x ∷ path) ++ name ∷ [] ≡ front ++ last ∷ name ∷ [] = ap (λ (z : List (List ℕ)). z ++ name ∷ []) parts.2 ∙ append_assoc front (last ∷ []) (name ∷ []) in
        let parent : is_some (get scene (front ++ last ∷ [])) ≡ true = closed.parents front last name (subst (λ (q : Path). is_some (get scene q) ≡ true) at there) in
        let here : is_some (get scene (x ∷ path)) ≡ true = subst (λ (q : Path). is_some (get scene q) ≡ true) (sym parts.2) parent in
        let gone : is_some (get scene (x ∷ path)) ≡ false = ap is_some absent in
        cc)

-- a path with other than one name more is no child
pub child_name-depth : (path key : Path) → length key ≢ length path + 1 → child_name path key ≡ None
child_name-depth [] [] h = refl
child_name-depth [] (x ∷ []) h = absurd (h refl)
child_name-depth [] (x ∷ y ∷ key) h = refl
child_name-depth (x ∷ path) [] h = refl
child_name-depth (x ∷ path) (y ∷ key) h =
    elim (is_same x y) as (λ b. (if b then child_name path key else None) ≡ None) [
      | true ↦ child_name-depth path key (λ e. h (omega (arith, e)))
      | false ↦ refl
    ]

-- a path with one name more is a child where it begins with the parent
pub child_name-prefix : (path key : Path) → length key ≡ length path + 1 → take (length path) key ≡ path → child_name path key ≡ Some (slice_index_or key (length path) [])
child_name-prefix [] [] l h = absurd (omega arith)
child_name-prefix [] (x ∷ []) l h = refl
child_name-prefix [] (x ∷ y ∷ key) l h = absurd (omega arith)
child_name-prefix (x ∷ path) [] l h = absurd (omega arith)
child_name-prefix (x ∷ path) (y ∷ key) l h =
    let same : y ≡ x = cc in
    let rest : take (length path) key ≡ path = cc in
    let yes : is_same x y ≡ true = ap (is_same x) same ∙ same_itself x in
    ap (λ b. if b then child_name path key else None) yes ∙ child_name-prefix path key (omega arith) rest

pub take-front : (front rest : Path) → take (length front) (front ++ rest) ≡ front
take-front [] rest = refl
take-front (x ∷ front) rest = ap (λ (z : List (List ℕ)). x ∷ z) (take-front front rest)

-- and else it is none
pub child_name-apart : (path key : Path) → ¬ (take (length path) key ≡ path) → child_name path key ≡ None
child_name-apart path key h =
    elim (child_name path key) as (λ (o : Option (List ℕ)). child_name path key ≡ o → o ≡ None) [
      | None ↦ λ _. refl
      | Some name ↦ λ is. absurd (h (ap (take (length path)) (child_is path key name is) ∙ take-front path (name ∷ [])))
    ] refl
