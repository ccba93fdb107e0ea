-- What a sink says of itself, and what its calls make of that.
use Rattle.std.specs.Prelude.{◌≡◌, ◌++◌, ℕ, List, length, take, Option}
use Rattle.std.specs.Option.{option_map}
use Rattle.hd_io.specs.Causes.{Rose}
use Rattle.hd_io.specs.Offers.{Offers, with_offer}

-- the bytes that were written, and what the writes were offered, where the sink tells them; and how often a call has failed
pub record SinkState : Type 0 where
  pub text : Option (List ℕ)
  pub offers : Option Offers
  pub faults : ℕ

-- the first n bytes of the piece that was offered are at the end of the text
abbrev pub with_written : List ℕ → ℕ → SinkState → SinkState
with_written piece n sink = record sink {
  text = option_map (λ bytes. bytes ++ take n piece) sink.text;
  offers = option_map (with_offer (length piece) n) sink.offers;
}

-- a call failed and was counted, and all else is as it was
pub record HasFailed (before now : SinkState) : Type 0 where
  pub counted : Rose before.faults now.faults
  pub same : now ≡ record before { faults = now.faults }
