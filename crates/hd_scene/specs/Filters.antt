-- What contracts see of a filter of a scene index.
use Rattle.std.specs.Prelude.{ℕ, Bool, refl}
use Rattle.std.specs.Coded.{Coded, code_by, coded×, coded_ℕ, coded_bool}
use Rattle.hd_scene.specs.Scenes.{Scene, scene_code}

-- what is known of a filter of a scene index: its input, the input's scene when the filter last looked at all of it, how often
-- it was asked for a prim, and whether what it keeps of the input may be out of date
pub record FilterState (I : Type 0) : Type 0 where
  pub input : I
  pub told : Scene
  pub pulls : ℕ
  pub spent : Bool

abbrev pub filter_code : {I : Type 0} → Coded I → Coded (FilterState I)
filter_code {I} input_code =
    code_by ((I × Scene) × (ℕ × Bool)) (coded× (coded× input_code scene_code) (coded× coded_ℕ coded_bool)) (λ s. ((s.input, s.told), (s.pulls, s.spent)))
    (λ p. record { input = p.0.0; told = p.0.1; pulls = p.1.0; spent = p.1.1 }) (λ _. refl)
