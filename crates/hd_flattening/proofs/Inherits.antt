-- Laws of what is inherited.
use Rattle.std.proofs.Common.{◌≡◌, ◌≢◌, ℕ, suc, ◌+◌, ◌-◌, ◌≤◌, Bool, true, false, not, ◌&&◌, ◌||◌, ◌==◌, cond, List, [], ◌∷◌, ◌++◌, length, take, Option, Some, None, refl, ap, sym, ◌∙◌, arith, append_assoc, length-append}
use Rattle.std.proofs.lemmas.Bool.Decides.{Decides-eqb}
use Rattle.std.proofs.lemmas.List.{append-nil}
use Rattle.std.proofs.Math.Seq.{take-append_seam}
use Rattle.std.specs.FinMap.{get}
use Rattle.std.proofs.Math.Bool.{and-false}
use Rattle.hd_num.specs.Matrices.{Rows}
use Rattle.hd_value.specs.Maps.{Map}
use Rattle.hd_scene.specs.Scenes.{Scene, prim_of}
use Rattle.hd_flattening.specs.Local.{compose, local, is_reset}
use Rattle.hd_flattening.specs.Flat.{values_at, ancestors, flat_matrix, is_invisible, is_visible}
use Rattle.hd_flattening.specs.Laws.{lineage, flat_matrix_at, MatrixOfChild, MatrixOutOfRange, MatrixOfRoot, MatrixOfReset, InvisibleHides}
use Rattle.hd_flattening.proofs.Walking.{ancestors-parent, prim_values-prim_of}
use Rattle.hd_path.specs.Paths.{Path}
use Rattle.hd_path.specs.Names.{Name}

-- the ancestors of a child are its parent's line
pub ancestors-child : (scene : Scene) (path : Path) (name : Name) → path ≢ [] → ancestors scene (path ++ name ∷ []) ≡ lineage scene path
ancestors-child scene path name some =
    let filled : 1 ≤ length path = filled_list path some in
    let longer : length (path ++ name ∷ []) ≡ length path + 1 = length-append path (name ∷ []) in
    let parent : path ≡ take (length (path ++ name ∷ []) - 1) (path ++ name ∷ []) = sym (ap (λ (n : ℕ). take (n - 1) (path ++ name ∷ [])) longer ∙ ap (λ (n : ℕ). take n (path ++ name ∷ [])) (omega arith) ∙ take-append_seam path (name ∷ [])) in
    sym (ap (λ (m : Map). m ∷ ancestors scene path) (sym (prim_values-prim_of (get scene path))) ∙ ancestors-parent scene (path ++ name ∷ []) path (prim_of (get scene path)) (omega arith) parent refl)
  where
    filled_list : (p : Path) → p ≢ [] → 1 ≤ length p
    filled_list [] filled = absurd (filled refl)
    filled_list (x ∷ p) filled = omega arith

suc_not_zero : (n : ℕ) → (suc n == 0) ≡ false
suc_not_zero n = elim (suc n == 0) as (λ b. (suc n == 0) ≡ b → b ≡ false) [ true ↦ λ e. absurd (let is : suc n ≡ 0 = (Decides-eqb (suc n) 0).0 e in omega arith) | false ↦ λ _. refl ] refl

-- neither reset nor a root prim
composes : (scene : Scene) (path : Path) (name : Name) → path ≢ [] → is_reset (values_at scene (path ++ name ∷ [])) ≡ false
    → flat_matrix_at scene (path ++ name ∷ []) ≡ compose (local (values_at scene (path ++ name ∷ []))) (flat_matrix_at scene path)
composes scene path name some unreset =
    ap (λ (above : List Map). flat_matrix (values_at scene (path ++ name ∷ []) ∷ above)) (ancestors-child scene path name some)
    ∙ ap (λ b. cond (is_reset (values_at scene (path ++ name ∷ [])) || b) (local (values_at scene (path ++ name ∷ []))) (compose (local (values_at scene (path ++ name ∷ []))) (flat_matrix_at scene path))) (suc_not_zero (length (ancestors scene path)))
    ∙ ap (λ b. cond (b || false) (local (values_at scene (path ++ name ∷ []))) (compose (local (values_at scene (path ++ name ∷ []))) (flat_matrix_at scene path))) unreset

pub matrix_of_child : MatrixOfChild
matrix_of_child scene path name own above some unreset here there =
    composes scene path name some unreset ∙ ap (λ (m : Option Rows). compose m (flat_matrix_at scene path)) here ∙ ap (compose (Some own)) there

pub matrix_out_of_range : MatrixOutOfRange
matrix_out_of_range scene path name some unreset there =
    composes scene path name some unreset ∙ ap (compose (local (values_at scene (path ++ name ∷ [])))) there ∙ out (local (values_at scene (path ++ name ∷ [])))
  where
    out : (m : Option Rows) → compose m None ≡ None
    out None = refl
    out (Some rows) = refl

alone : (b : Bool) (x y : Option Rows) → cond (b || true) x y ≡ x
alone true x y = refl
alone false x y = refl

pub matrix_of_root : MatrixOfRoot
matrix_of_root scene name = alone (is_reset (values_at scene (name ∷ []))) (local (values_at scene (name ∷ []))) _

pub matrix_of_reset : MatrixOfReset
matrix_of_reset scene path reset =
    ap (λ b. cond (b || length (ancestors scene path) == 0) (local (values_at scene path)) (compose (local (values_at scene path)) (flat_matrix (ancestors scene path)))) reset

-- what hides a path hides what is below it
hidden_below : (scene : Scene) (path rest : Path) → path ≢ [] → is_visible (lineage scene path) ≡ false → is_visible (lineage scene (path ++ rest)) ≡ false
hidden_below scene path [] some hidden = ap (λ (p : Path). is_visible (lineage scene p)) (append-nil path) ∙ hidden
hidden_below scene path (name ∷ rest) some hidden =
    ap (λ (p : Path). is_visible (lineage scene p)) (sym (append_assoc path (name ∷ []) rest))
    ∙ hidden_below scene (path ++ name ∷ []) rest (longer path)
    (ap (λ (above : List Map). is_visible (values_at scene (path ++ name ∷ []) ∷ above)) (ancestors-child scene path name some)
    ∙ ap (λ b. not (is_invisible (values_at scene (path ++ name ∷ []))) && b) hidden
    ∙ and-false (not (is_invisible (values_at scene (path ++ name ∷ [])))))
  where
    longer : (p : Path) → p ++ name ∷ [] ≢ []
    longer [] e = cc
    longer (x ∷ p) e = cc

pub invisible_hides : InvisibleHides
invisible_hides scene path rest some invisible =
    hidden_below scene path rest some (ap (λ b. not b && is_visible (ancestors scene path)) invisible)
