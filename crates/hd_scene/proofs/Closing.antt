-- Scenes stay closed.
use Rattle.std.proofs.Common.{◌≡◌, ◌≢◌, Bool, true, false, cond, ◌||◌, [], ◌∷◌, ◌++◌, Some, is_some, IsSome, refl, sym, ◌∙◌, ap, subst}
use Rattle.std.specs.Ordering.{eq_by_cmp, is_eq}
use Rattle.std.specs.declared.cmp.Ordering.{Ordering}
use Rattle.std.specs.declared.cmp.Ordering.TheVariants.{Less, Equal, Greater}
use Rattle.std.specs.FinMap.{get, insert, get-insert}
use Rattle.std.proofs.Math.Bool.{or-true}
use Rattle.hd_path.specs.Paths.{Path, IsPath, path_cmp}
use Rattle.hd_scene.specs.Scenes.{Scene, IsClosed}
use Rattle.hd_scene.specs.declared.prims.Entry.{Entry}
use Rattle.hd_scene.proofs.Children.{path_cmp_total, path_cmp_exact}
use Rattle.hd_path.specs.Names.{Name}
use Rattle.hd_path.proofs.Logic.{none_there, either}

-- a comparison that ties says that both are equal
pub is_equal : (r : Ordering) → is_eq r ≡ true → r ≡ Equal
is_equal Less h = cc
is_equal Equal h = refl
is_equal Greater h = cc

pub tied : (p q : Path) → eq_by_cmp path_cmp p q ≡ true → p ≡ q
tied p q h = path_cmp_exact p q (is_equal (path_cmp p q) h)

-- what is there after a prim was put
pub there-insert : (scene : Scene) (at : Path) (e : Entry) (p : Path) → is_some (get (insert scene at e) p) ≡ (eq_by_cmp path_cmp p at || is_some (get scene p))
there-insert scene at e p = ap is_some (get-insert path_cmp_total scene at e p) ∙ choice (eq_by_cmp path_cmp p at)
  where
    choice : (b : Bool) → is_some (cond b (Some e) (get scene p)) ≡ (b || is_some (get scene p))
    choice true = refl
    choice false = refl

-- a prim below one that is there, or below the root, keeps the scene closed
pub insert_closed : (scene : Scene) (at : Path) (e : Entry) → IsClosed scene → at ≢ [] → IsPath at
    → ((front : Path) (name below : Name) → at ≡ front ++ name ∷ below ∷ [] → IsSome (get scene (front ++ name ∷ [])))
    → IsClosed (insert scene at e)
insert_closed scene at e closed no_root is_path parent = record {
  no_root = none_there (get (insert scene at e) []) (there-insert scene at e [] ∙ ap (λ b. b || is_some (get scene [])) (off_root at no_root) ∙ ap is_some closed.no_root);
  parents = λ path name below there.
      kept (path ++ name ∷ [])
      (either (eq_by_cmp path_cmp (path ++ name ∷ below ∷ []) at) (is_some (get scene (path ++ name ∷ below ∷ [])))
      (λ same. parent path name below (sym (tied (path ++ name ∷ below ∷ []) at same)))
      (closed.parents path name below)
      (sym (there-insert scene at e (path ++ name ∷ below ∷ [])) ∙ there));
  paths = λ path there.
      elim (eq_by_cmp path_cmp path at) as (λ b. eq_by_cmp path_cmp path at ≡ b → (b || is_some (get scene path)) ≡ true → IsPath path) [
        | true ↦ λ same _. subst IsPath (sym (tied path at same)) is_path
        | false ↦ λ _ old. closed.paths path old
      ] refl (sym (there-insert scene at e path) ∙ there);
}
  where
    off_root : (q : Path) → q ≢ [] → eq_by_cmp path_cmp [] q ≡ false
    off_root [] h = absurd (h refl)
    off_root (x ∷ q) h = refl

    kept : (p : Path) → is_some (get scene p) ≡ true → is_some (get (insert scene at e) p) ≡ true
    kept p h = there-insert scene at e p ∙ ap (λ b. eq_by_cmp path_cmp p at || b) h ∙ or-true (eq_by_cmp path_cmp p at)
