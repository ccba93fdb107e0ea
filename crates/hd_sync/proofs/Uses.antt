-- What was registered in one step after another.
use Rattle.std.proofs.Common.{◌≡◌, ℕ, ◌+◌, ◌≤◌, true, List, [], ◌∷◌, map, Option, Some, None, is_some, refl, ◌∙◌, ap, arith}
use Rattle.hd_registry.specs.Entries.{Entries, content_at, users_at, is_kept, Extends, Fresh}
use Rattle.hd_sync.specs.Syncing.{uses, uses_all, content_given, contents_given, Synced}
use Rattle.hd_sync.specs.inner.Steps.{SyncedOne}

pub extends_then : {C : Type 0} (a b c : Entries C) (m n : ℕ → ℕ) → Extends a b m → Extends b c n → Extends a c (λ t. m t + n t)
extends_then a b c m n x y = record {
  contents = λ t content h. y.contents t content (x.contents t content h);
  users = λ t.
      let e : users_at b t ≡ users_at a t + m t = x.users t in
      let f : users_at c t ≡ users_at b t + n t = y.users t in
      omega (arith, e, f);
}

pub fresh_then : {C : Type 0} (a b c : Entries C) (m n : ℕ → ℕ) → Fresh a b m → Fresh b c n → Fresh a c (λ t. m t + n t)
fresh_then {C} a b c m n x y = λ t h k. at t h k (content_at b t) refl
  where
    at : (t : ℕ) → content_at a t ≡ None → is_kept c t ≡ true → (o : Option C) → content_at b t ≡ o → 1 ≤ m t + n t
    at t h k None e = let z : 1 ≤ n t = y t e k in omega (arith, z)
    at t h k (Some content) e = let z : 1 ≤ m t = x t h (ap is_some e) in omega (arith, z)

-- the same number of uses, written in another way
pub extends_as : {C : Type 0} (a b : Entries C) (m n : ℕ → ℕ) → ((t : ℕ) → m t ≡ n t) → Extends a b m → Extends a b n
extends_as a b m n e x = record { contents = x.contents; users = λ t. x.users t ∙ ap (λ k. users_at a t + k) (e t) }

pub fresh_as : {C : Type 0} (a b : Entries C) (m n : ℕ → ℕ) → ((t : ℕ) → m t ≡ n t) → Fresh a b m → Fresh a b n
fresh_as a b m n e x = λ t h k. let z : 1 ≤ m t = x t h k in let f : m t ≡ n t = e t in omega (arith, z, f)

-- a slot that was given keeps its content
pub content_stays : {C : Type 0} (a b : Entries C) (m : ℕ → ℕ) → Extends a b m → (want : Option C) (slot : Option ℕ) → is_some slot ≡ is_some want → content_given a slot ≡ want → content_given b slot ≡ want
content_stays a b m e want None p h = h
content_stays a b m e None (Some slot) p h = absurd (cc)
content_stays a b m e (Some content) (Some slot) p h = e.contents slot content h

pub contents_stay : {C : Type 0} (a b : Entries C) (m : ℕ → ℕ) → Extends a b m → (wants : List (Option C)) (slots : List (Option ℕ)) → map is_some slots ≡ map is_some wants → contents_given a slots ≡ wants → contents_given b slots ≡ wants
contents_stay a b m e [] [] p h = refl
contents_stay a b m e [] (slot ∷ slots) p h = absurd (cc)
contents_stay a b m e (want ∷ wants) [] p h = absurd (cc)
contents_stay a b m e (want ∷ wants) (slot ∷ slots) p h =
    let first : content_given b slot ≡ want = content_stays a b m e want slot (cc) (cc) in
    let others : contents_given b slots ≡ wants = contents_stay a b m e wants slots (cc) (cc) in
    cc

pub jobs_stay : {C : Type 0} (a b : Entries C) (m : ℕ → ℕ) → Extends a b m → (wants : List (List (Option C))) (given : List (List (Option ℕ))) → map (map is_some) given ≡ map (map is_some) wants → map (contents_given a) given ≡ wants → map (contents_given b) given ≡ wants
jobs_stay a b m e [] [] p h = refl
jobs_stay a b m e [] (slots ∷ given) p h = absurd (cc)
jobs_stay a b m e (want ∷ wants) [] p h = absurd (cc)
jobs_stay a b m e (want ∷ wants) (slots ∷ given) p h =
    let first : contents_given b slots ≡ want = contents_stay a b m e want slots (cc) (cc) in
    let others : map (contents_given b) given ≡ wants = jobs_stay a b m e wants given (cc) (cc) in
    cc

pub synced_wants : {C : Type 0} (a b c d : Entries C) (v w x : Option C) (r s t : Option ℕ) → SyncedOne a b v r → SyncedOne b c w s → SyncedOne c d x t → Synced a d ((v ∷ w ∷ x ∷ []) ∷ []) ((r ∷ s ∷ t ∷ []) ∷ [])
synced_wants a b c d v w x r s t first second third =
    let first_now : content_given d r ≡ v = content_stays c d (uses t) third.extends v r first.place (content_stays b c (uses s) second.extends v r first.place first.content) in
    let second_now : content_given d s ≡ w = content_stays c d (uses t) third.extends w s second.place second.content in
    let third_now : content_given d t ≡ x = third.content in
    let first_place : is_some r ≡ is_some v = first.place in
    let second_place : is_some s ≡ is_some w = second.place in
    let third_place : is_some t ≡ is_some x = third.place in
    let sums : (k : ℕ) → (uses r k + uses s k) + uses t k ≡ uses_all ((r ∷ s ∷ t ∷ []) ∷ []) k = λ k. omega arith in
    record {
      contents = cc;
      places = cc;
      extends = extends_as a d _ _ sums (extends_then a c d (λ k. uses r k + uses s k) (uses t) (extends_then a b c (uses r) (uses s) first.extends second.extends) third.extends);
      fresh = fresh_as a d _ _ sums (fresh_then a c d (λ k. uses r k + uses s k) (uses t) (fresh_then a b c (uses r) (uses s) first.fresh second.fresh) third.fresh);
    }
