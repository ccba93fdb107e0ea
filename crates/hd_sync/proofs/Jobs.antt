-- Jobs that are synced one after another.
use Rattle.std.proofs.Common.{◌≡◌, ℕ, ◌+◌, ◌*◌, ◌<◌, ◌≤◌, suc, zero, true, false, cond, ◌==◌, List, [], ◌∷◌, ◌++◌, length, map, take, drop, get_or, All, Option, Some, None, is_some, sym, ◌∙◌, ap, subst, arith}
use Rattle.std.proofs.Math.ListN.{set}
use Rattle.std.proofs.Math.Seq.{take-suc-set}
use Rattle.std.proofs.lemmas.List.{map-append, length-map, drop-set-lt}
use Rattle.std.proofs.lemmas.List.Elements.{All-head, All-tail, All-cons, All-nil}
use Rattle.hd_registry.specs.Entries.{Entries, one_at}
use Rattle.hd_sync.specs.declared.wants.Slots.{Slots}
use Rattle.hd_sync.specs.Syncing.{listed, uses, uses_all, contents_given, Synced}
use Rattle.hd_sync.proofs.Uses.{extends_then, extends_as, fresh_then, fresh_as, jobs_stay}

uses_all-append : (given more : List (List (Option ℕ))) (t : ℕ) → uses_all given t + uses_all more t ≡ uses_all (given ++ more) t
uses_all-append [] more t = omega arith
uses_all-append (slots ∷ given) more t = let others : uses_all given t + uses_all more t ≡ uses_all (given ++ more) t = uses_all-append given more t in omega (arith, others)

synced_then : {C : Type 0} (a b c : Entries C) (wants next : List (List (Option C))) (given more : List (List (Option ℕ))) → Synced a b wants given → Synced b c next more → Synced a c (wants ++ next) (given ++ more)
synced_then a b c wants next given more x y =
    let before : map (contents_given c) given ≡ wants = jobs_stay b c (uses_all more) y.extends wants given x.places x.contents in
    let after : map (contents_given c) more ≡ next = y.contents in
    let split : map (contents_given c) (given ++ more) ≡ map (contents_given c) given ++ map (contents_given c) more = map-append (contents_given c) given more in
    let places_before : map (map is_some) given ≡ map (map is_some) wants = x.places in
    let places_after : map (map is_some) more ≡ map (map is_some) next = y.places in
    let given_places : map (map is_some) (given ++ more) ≡ map (map is_some) given ++ map (map is_some) more = map-append (map is_some) given more in
    let wanted_places : map (map is_some) (wants ++ next) ≡ map (map is_some) wants ++ map (map is_some) next = map-append (map is_some) wants next in
    record {
      contents = cc;
      places = cc;
      extends = extends_as a c _ _ (uses_all-append given more) (extends_then a b c (uses_all given) (uses_all more) x.extends y.extends);
      fresh = fresh_as a c _ _ (uses_all-append given more) (fresh_then a b c (uses_all given) (uses_all more) x.fresh y.fresh);
    }

-- what is known of each job that was done, after one more
done_more : {X Y : Type 0} (f : X → Y) (jobs : List X) (i : ℕ) (job : X) → i < length jobs → map f (take (suc i) (set jobs i job)) ≡ map f (take i jobs) ++ f job ∷ []
done_more f jobs i job h = ap (map f) (take-suc-set jobs i job h) ∙ map-append f (take i jobs) (job ∷ [])

pub given_more : {X : Type 0} (f : X → List (Option ℕ)) (jobs : List X) (i : ℕ) (job : X) (old new : List Slots) → i < length jobs → map listed old ≡ map f (take i jobs) → map listed new ≡ map listed old ++ f job ∷ [] → map listed new ≡ map f (take (suc i) (set jobs i job))
given_more f jobs i job old new h e k = k ∙ ap (λ l. l ++ f job ∷ []) e ∙ sym (done_more f jobs i job h)

pub synced_more : {C X : Type 0} (wants : X → List (Option C)) (given : X → List (Option ℕ)) (a b c : Entries C) (jobs : List X) (i : ℕ) (job : X) (want : List (Option C)) → i < length jobs
    → Synced a b (map wants (take i jobs)) (map given (take i jobs)) → Synced b c (want ∷ []) (given job ∷ []) → wants job ≡ want
    → Synced a c (map wants (take (suc i) (set jobs i job))) (map given (take (suc i) (set jobs i job)))
synced_more wants given a b c jobs i job want h x y e =
    let one : Synced b c (wants job ∷ []) (given job ∷ []) = subst (λ w. Synced b c (w ∷ []) (given job ∷ [])) (sym e) y in
    let all : Synced a c (map wants (take i jobs) ++ wants job ∷ []) (map given (take i jobs) ++ given job ∷ []) = synced_then a b c _ _ _ _ x one in
    rw (done_more wants jobs i job h, done_more given jobs i job h) all

-- a fact of all jobs that are left holds of the first of them, and of those after it
pub next_of_rest : {X : Type 0} (P : X → Type 0) (jobs : List X) (i : ℕ) (d : X) → i < length jobs → All P (drop i jobs) → P (get_or jobs i d)
next_of_rest P [] i d h all = absurd (omega arith)
next_of_rest P (job ∷ jobs) zero d h all = All-head P job jobs all
next_of_rest P (job ∷ jobs) (suc i) d h all = next_of_rest P jobs i d (omega arith) all

rest_after : {X : Type 0} (P : X → Type 0) (jobs : List X) (i : ℕ) → All P (drop i jobs) → All P (drop (suc i) jobs)
rest_after P [] zero all = all
rest_after P [] (suc i) all = all
rest_after P (job ∷ jobs) zero all = All-tail P job jobs all
rest_after P (job ∷ jobs) (suc i) all = rest_after P jobs i all

pub rest_less : {X : Type 0} (P : X → Type 0) (jobs : List X) (i : ℕ) (job : X) → All P (drop i jobs) → All P (drop (suc i) (set jobs i job))
rest_less P jobs i job all = rw (drop-set-lt (suc i) jobs i job (omega arith)) (rest_after P jobs i all)

-- a fact of all jobs that were done, after one more
pub all_more : {X : Type 0} (P : X → Type 0) (jobs : List X) (i : ℕ) (job : X) → i < length jobs → P job → All P (take i jobs) → All P (take (suc i) (set jobs i job))
all_more P [] i job h p all = absurd (omega arith)
all_more P (x ∷ jobs) zero job h p all = All-cons P job [] p (All-nil P)
all_more P (x ∷ jobs) (suc i) job h p all = All-cons P x (take (suc i) (set jobs i job)) (All-head P x (take i jobs) all) (all_more P jobs i job (omega arith) p (All-tail P x (take i jobs) all))

one_at-le : (slot t : ℕ) → one_at slot t ≤ 1
one_at-le slot t = elim (slot == t) as (λ b. cond b 1 0 ≤ 1) [ true ↦ omega arith | false ↦ omega arith ]

uses-le : (slot : Option ℕ) (t : ℕ) → uses slot t ≤ 1
uses-le None t = omega arith
uses-le (Some slot) t = one_at-le slot t

uses_all-le : (given : List Slots) (t : ℕ) → uses_all (map listed given) t ≤ 3 * length given
uses_all-le [] t = omega arith
uses_all-le (slots ∷ given) t =
    let others : uses_all (map listed given) t ≤ 3 * length given = uses_all-le given t in
    let first : uses slots.first t ≤ 1 = uses-le slots.first t in
    let second : uses slots.second t ≤ 1 = uses-le slots.second t in
    let third : uses slots.third t ≤ 1 = uses-le slots.third t in
    omega (arith, others, first, second, third)

-- the jobs that were done have few uses
pub uses_few : {X : Type 0} (f : X → List (Option ℕ)) (jobs : List X) (i : ℕ) (given : List Slots) → map listed given ≡ map f (take i jobs) → (t : ℕ) → uses_all (map f (take i jobs)) t ≤ 3 * length jobs
uses_few f jobs i given e t =
    let uses_given : uses_all (map listed given) t ≡ uses_all (map f (take i jobs)) t = ap (λ l. uses_all l t) e in
    let few : uses_all (map listed given) t ≤ 3 * length given = uses_all-le given t in
    let lengths : length given ≡ length (map f (take i jobs)) = sym (length-map given listed) ∙ ap length e in
    let taken : length (map f (take i jobs)) ≤ length jobs = short f jobs i in
    omega (arith, uses_given, few, lengths, taken)
  where
    short : {X : Type 0} (f : X → List (Option ℕ)) (jobs : List X) (i : ℕ) → length (map f (take i jobs)) ≤ length jobs
    short f [] zero = omega arith
    short f [] (suc i) = omega arith
    short f (job ∷ jobs) zero = omega arith
    short f (job ∷ jobs) (suc i) = let others : length (map f (take i jobs)) ≤ length jobs = short f jobs i in omega (arith, others)
