-- What a script changes, line by line.
use Rattle.std.specs.Prelude.{◌≡◌, ◌<◌, ℕ, List, Bool, length, map, refl}
use Rattle.std.specs.Coded.{Coded, code_by, coded×, coded_ℕ, coded_list, coded_bool}
use Rattle.hd_layer.specs.declared.spec.LayerSpec.{LayerSpec}
use Rattle.hd_retained.specs.Layers.{Layer, layer_code, layer_of}
use Rattle.hd_scene.specs.Scenes.{Scene}
use Rattle.hd_rprim.specs.PrimRows.{rows_of}
use Rattle.hd_attributes.specs.Rows.{index}

-- the layers, of which the first is the strongest; the layers as they were committed last; the number of the layer that edits
-- change; and the number of commits
pub record State : Type 0 where
  pub layers : List Layer
  pub committed : List Layer
  pub current : ℕ
  pub commits : ℕ

abbrev pub state_code : Coded State
state_code =
    code_by ((List Layer × List Layer) × (ℕ × ℕ)) (coded× (coded× (coded_list layer_code) (coded_list layer_code)) (coded× coded_ℕ coded_ℕ))
    (λ s. ((s.layers, s.committed), (s.current, s.commits))) (λ p. record { layers = p.0.0; committed = p.0.1; current = p.1.0; commits = p.1.1 }) (λ _. refl)

-- the state before the first line: what was read is committed
abbrev pub opening_state : List LayerSpec → State
opening_state layers = record { layers = map layer_of layers; committed = map layer_of layers; current = 0; commits = 0 }

-- a session: its state, and whether a command was refused, after which there is none
pub record Session : Type 0 where
  pub state : State
  pub is_spent : Bool

abbrev pub session_code : Coded Session
session_code = code_by (State × Bool) (coded× state_code coded_bool) (λ s. (s.state, s.is_spent)) (λ p. record { state = p.0; is_spent = p.1 }) (λ _. refl)

-- the number is that of a layer, and the rows of the index's scene are those of the layers that were committed last
pub record IsKept (layers committed : List Layer) (current : ℕ) (scene : Scene) : Type 0 where
  pub below : current < length layers
  pub shows : rows_of scene ≡ index committed
