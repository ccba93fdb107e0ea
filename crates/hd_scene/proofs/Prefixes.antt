-- The tests of paths are those of what they are.
use Rattle.std.proofs.Common.{◌≡◌, ◌↔◌, true, ◌&&◌, [], ◌∷◌, refl, sym, ◌∙◌, ap}
use Rattle.hd_path.specs.Paths.{Path}
use Rattle.hd_path.specs.inner.Comparing.{names_same}
use Rattle.hd_path.proofs.NamePrefixes.{same_itself}
use Rattle.hd_scene.specs.Tells.{is_same_path}

pub is_same_path-itself : (p : Path) → is_same_path p p ≡ true
is_same_path-itself [] = refl
is_same_path-itself (x ∷ p) = ap (λ b. b && is_same_path p p) (same_itself x) ∙ is_same_path-itself p

pub is_same_path-decides : (p q : Path) → (is_same_path p q ≡ true) ↔ (p ≡ q)
is_same_path-decides p q = (names_same p q, λ e. ap (is_same_path p) (sym e) ∙ is_same_path-itself p)
