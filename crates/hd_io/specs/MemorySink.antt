-- What a sink in memory holds.
use Rattle.std.specs.Prelude.{ℕ, List, Some}
use Rattle.hd_io.specs.Memory.{CallPlan}
use Rattle.hd_io.specs.Offers.{Offers}
use Rattle.hd_io.specs.Sink.{SinkState}

-- what a sink in memory holds, and how its calls go
pub record MemorySinkState : Type 0 where
  pub bytes : List ℕ
  pub offers : Offers
  pub faults : ℕ
  pub calls : CallPlan

-- what it says of itself: all
abbrev pub sink_state : MemorySinkState → SinkState
sink_state sink = record { text = Some sink.bytes; offers = Some sink.offers; faults = sink.faults }
