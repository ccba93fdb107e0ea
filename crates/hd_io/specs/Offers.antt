-- What the writes of a file or a line were offered.
use Rattle.std.specs.Prelude.{◌≡◌, ◌-◌, ℕ, List, [], ◌∷◌, ◌++◌, length, Option}
use Rattle.std.specs.Option.{option_map}

-- the lengths of the pieces that were offered, each with how many of its bytes were taken
abbrev pub Offers : Type 0
Offers = List (ℕ × ℕ)

-- one more offer
abbrev pub with_offer : (offered taken : ℕ) → Offers → Offers
with_offer offered taken offers = offers ++ (offered, taken) ∷ []

-- of so many bytes that were left, each offer was all that the earlier ones had not taken, and `rest` are left after them
abbrev pub OffersAllLeft : (left rest : ℕ) → Offers → Type 0
OffersAllLeft left rest [] = rest ≡ left
OffersAllLeft left rest (offer ∷ offers) = (offer.0 ≡ left) × OffersAllLeft (left - offer.1) rest offers

-- where the offers are told, those of one writing of so many bytes were added, after which `rest` are left
pub record Offered (size rest : ℕ) (before now : Option Offers) : Type 0 where
  pub offers : Offers
  pub added : now ≡ option_map (λ told. told ++ offers) before
  pub all_left : OffersAllLeft size rest offers

-- each write of these bytes was offered all that was left of them, and they were all taken
abbrev pub OfferedWhole : List ℕ → (before now : Option Offers) → Type 0
OfferedWhole bytes before now = Offered (length bytes) 0 before now

-- each write of these bytes was offered all that was left of them
abbrev pub OfferedCut : List ℕ → (before now : Option Offers) → Type 0
OfferedCut bytes before now = (rest : ℕ) × Offered (length bytes) rest before now
