-- What the writes of a file or a line were offered, write by write.
use Rattle.std.proofs.Common.{◌≡◌, ℕ, ◌+◌, ◌-◌, ◌≤◌, ◌∙◌, List, [], ◌∷◌, ◌++◌, length, drop, Option, Some, None, refl, sym, ap, subst, arith, append_assoc, append-nil, length-drop}
use Rattle.std.specs.Option.{option_map}
use Rattle.hd_io.specs.Offers.{Offers, with_offer, OffersAllLeft, Offered, OfferedCut}

-- one offer more, of all that is left
all_left_more : (left rest taken : ℕ) (offers : Offers) → OffersAllLeft left rest offers → OffersAllLeft left (rest - taken) (offers ++ (rest, taken) ∷ [])
all_left_more left rest taken [] is = (is, ap (λ (n : ℕ). n - taken) is)
all_left_more left rest taken (offer ∷ offers) is = (is.0, all_left_more (left - offer.1) rest taken offers is.1)

told_more : (before : Option Offers) (offers : Offers) (offered taken : ℕ)
    → option_map (with_offer offered taken) (option_map (λ told. told ++ offers) before) ≡ option_map (λ told. told ++ (offers ++ (offered, taken) ∷ [])) before
told_more None offers offered taken = refl
told_more (Some told) offers offered taken = ap (λ (all : Offers). Some all) (append_assoc told offers ((offered, taken) ∷ []))

told_none : (before : Option Offers) → before ≡ option_map (λ told. told ++ []) before
told_none None = refl
told_none (Some told) = ap (λ (all : Offers). Some all) (sym (append-nil told))

-- nothing was offered yet
pub offered_none : (size : ℕ) (before : Option Offers) → Offered size (size - 0) before before
offered_none size before = record { offers = []; added = told_none before; all_left = omega arith }

-- a write was offered all the bytes from `written` on
pub offered_more : (bytes : List ℕ) (written taken : ℕ) (before between now : Option Offers) → Offered (length bytes) (length bytes - written) before between
    → now ≡ option_map (with_offer (length (drop written bytes)) taken) between → Offered (length bytes) (length bytes - (written + taken)) before now
offered_more bytes written taken before between now so_far more =
    let rest : ℕ = length bytes - written in
    let size : length (drop written bytes) ≡ rest = length-drop written bytes in
    let left : rest - taken ≡ length bytes - (written + taken) = omega arith in
    record {
      offers = so_far.offers ++ (rest, taken) ∷ [];
      added =
          more
          ∙ ap (λ (n : ℕ). option_map (with_offer n taken) between) size
          ∙ ap (option_map (with_offer rest taken)) so_far.added
          ∙ told_more before so_far.offers rest taken;
      all_left = subst (λ (n : ℕ). OffersAllLeft (length bytes) n (so_far.offers ++ (rest, taken) ∷ [])) left (all_left_more (length bytes) rest taken so_far.offers so_far.all_left);
    }

-- no bytes are left
pub offered_whole : (bytes : List ℕ) (written : ℕ) (before now : Option Offers) → length bytes ≤ written → Offered (length bytes) (length bytes - written) before now → Offered (length bytes) 0 before now
offered_whole bytes written before now all offered = subst (λ (n : ℕ). Offered (length bytes) n before now) (omega arith) offered

-- nothing was offered
pub offered_not : (bytes : List ℕ) (before now : Option Offers) → now ≡ before → OfferedCut bytes before now
offered_not bytes before now same = (length bytes - 0, subst (λ (o : Option Offers). Offered (length bytes) (length bytes - 0) before o) (sym same) (offered_none (length bytes) before))
