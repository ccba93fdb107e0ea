-- The nearest of a list of fragments, and how it changes with one more.
use Rattle.std.proofs.Common.{◌≡◌, ℕ, zero, suc, ◌<◌, arith, refl, sym, ◌∙◌, Bool, true, false, ◌&&◌, List, [], ◌∷◌, ◌++◌, length, get_or, length-append, Some, None, ◌≤ℤ◌, ◌<ℤ◌, int_le, inl, inr, ◌⊎◌}
use Rattle.std.specs.List.{find, list_all}
use Rattle.std.specs.Prelude.{All}
use Rattle.std.proofs.lemmas.Int.{by_lt_z, ints}
use Rattle.std.proofs.lemmas.List.{get_or_default}
use Rattle.std.proofs.lemmas.List.Elements.{All-from_get_or, All-push}
use Rattle.std.proofs.Math.ListN.{get_or-append}
use Rattle.std.proofs.Math.Seq.{get_or-append_seam}
use Rattle.hd_picture.specs.declared.define.pixels.Fragment.{Fragment}
use Rattle.hd_picture.specs.Laws.{IsFirstNearest}
use Rattle.hd_picture.specs.define.Pixels.{black, is_nearest, nearest, visible_color}
use Rattle.hd_picture.specs.inner.Pixels.{nearer}

-- the first element that passes is found
find_first : {X : Type 0} → (p : X → Bool) (xs : List X) (i : ℕ) (x : X) → i < length xs → get_or xs i x ≡ x → p x ≡ true
    → ((k : ℕ) → k < i → p (get_or xs k x) ≡ false) → find p xs ≡ Some x
find_first p [] i x l at pass fail = absurd (omega arith)
find_first p (y ∷ ys) zero x l at pass fail = rw (at, pass)
find_first p (y ∷ ys) (suc i) x l at pass fail =
    let first : p y ≡ false = fail 0 (omega arith) in
    rw first (find_first p ys i x (omega arith) at pass (λ k h. fail (suc k) (omega arith)))

all_at_most : (fs : List Fragment) (f : Fragment) → ((k : ℕ) → k < length fs → (get_or fs k f).depth ≤ℤ f.depth) → is_nearest fs f ≡ true
all_at_most [] f h = refl
all_at_most (g ∷ gs) f h =
    let first : true ≡ int_le g.depth f.depth = let l = h 0 (omega arith) in omega (arith, ints) in
    rw (sym first) (all_at_most gs f (λ k l. h (suc k) (omega arith)))

not_nearest : (fs : List Fragment) (k : ℕ) (d f : Fragment) → k < length fs → f.depth <ℤ (get_or fs k d).depth → is_nearest fs f ≡ false
not_nearest [] k d f l h = absurd (omega arith)
not_nearest (g ∷ gs) zero d f l h =
    let first : false ≡ int_le g.depth f.depth = omega (arith, ints) in
    rw (sym first)
not_nearest (g ∷ gs) (suc k) d f l h = by (int_le g.depth f.depth) (not_nearest gs k d f (omega arith) h)
  where
    by : (t : Bool) → list_all (λ (e : Fragment). int_le e.depth f.depth) gs ≡ false → t && list_all (λ (e : Fragment). int_le e.depth f.depth) gs ≡ false
    by true e = e
    by false e = refl

-- what the relation names is what is found
pub nearest_is : (fs : List Fragment) (i : ℕ) (f : Fragment) → IsFirstNearest fs i f → nearest fs ≡ Some f
unfolding nearest
nearest_is fs i f r =
    find_first (is_nearest fs) fs i f r.place r.at_place (all_at_most fs f r.greatest)
    (λ k l. not_nearest fs i f (get_or fs k f) r.place (let h = r.first k l in rw r.at_place h))

pub record Nearest (fs : List Fragment) : Type 0 where
  pub i : ℕ
  pub f : Fragment
  pub is : IsFirstNearest fs i f

first_of_more : (f : Fragment) (gs : List Fragment) (i : ℕ) (g : Fragment) → IsFirstNearest gs i g → f.depth <ℤ g.depth → IsFirstNearest (f ∷ gs) (suc i) g
first_of_more f gs i g r l = record { place = (let p = r.place in omega arith); at_place = r.at_place; greatest = all; first = before }
  where
    all : (k : ℕ) → k < length (f ∷ gs) → (get_or (f ∷ gs) k g).depth ≤ℤ g.depth
    all zero h = omega (arith, ints)
    all (suc k) h = r.greatest k (omega arith)

    before : (k : ℕ) → k < suc i → (get_or (f ∷ gs) k g).depth <ℤ g.depth
    before zero h = l
    before (suc k) h = r.first k (omega arith)

first_itself : (f : Fragment) (gs : List Fragment) (i : ℕ) (g : Fragment) → IsFirstNearest gs i g → g.depth ≤ℤ f.depth → IsFirstNearest (f ∷ gs) 0 f
first_itself f gs i g r l = record { place = omega arith; at_place = refl; greatest = all; first = λ k h. absurd (omega arith) }
  where
    all : (k : ℕ) → k < length (f ∷ gs) → (get_or (f ∷ gs) k f).depth ≤ℤ f.depth
    all zero h = omega (arith, ints)
    all (suc k) h =
        let in' : k < length gs = omega arith in
        let m = r.greatest k in' in
        let same : get_or gs k f ≡ get_or gs k g = get_or_default gs k f g in' in
        rw same (omega (arith, ints))

only_nearest : (f : Fragment) → IsFirstNearest (f ∷ []) 0 f
only_nearest f = record { place = omega arith; at_place = refl; greatest = all; first = λ k l. absurd (omega arith) }
  where
    all : (k : ℕ) → k < length (f ∷ []) → (get_or (f ∷ []) k f).depth ≤ℤ f.depth
    all zero l = omega (arith, ints)
    all (suc k) l = absurd (omega arith)

-- a list with a fragment has a nearest
pub some_nearest : (f : Fragment) (fs : List Fragment) → Nearest (f ∷ fs)
some_nearest f [] = record { i = 0; f = f; is = only_nearest f }
some_nearest f (g ∷ gs) = after (some_nearest g gs)
  where
    later : (n : Nearest (g ∷ gs)) → f.depth <ℤ n.f.depth → Nearest (f ∷ g ∷ gs)
    later n l = record { i = suc n.i; f = n.f; is = first_of_more f (g ∷ gs) n.i n.f n.is l }

    earlier : (n : Nearest (g ∷ gs)) → n.f.depth ≤ℤ f.depth → Nearest (f ∷ g ∷ gs)
    earlier n l = record { i = 0; f = f; is = first_itself f (g ∷ gs) n.i n.f n.is l }

    after : Nearest (g ∷ gs) → Nearest (f ∷ g ∷ gs)
    after n = by_lt_z f.depth n.f.depth (later n) (earlier n)

-- a fragment at the end that is nearer than the nearest
last_nearest : (fs : List Fragment) (i : ℕ) (f g : Fragment) → IsFirstNearest fs i f → f.depth <ℤ g.depth → IsFirstNearest (fs ++ g ∷ []) (length fs) g
last_nearest fs i f g r l =
    let P : Fragment → Type 0 = λ e. e.depth ≤ℤ g.depth in
    let old : All P fs = All-from_get_or P fs f (λ k h. let m = r.greatest k h in omega (arith, ints)) in
    let itself : P g = omega (arith, ints) in
    let all = All-push P fs g old itself in
    record {
      place = simp length-append (omega arith);
      at_place = get_or-append_seam fs g [] g;
      greatest = λ k h. all k g h;
      first = λ k h.
          let m = r.greatest k h in
          rw (get_or-append fs (g ∷ []) g k h, get_or_default fs k g f h) (omega (arith, ints));
    }

-- a fragment at the end that is not
still_nearest : (fs : List Fragment) (i : ℕ) (f g : Fragment) → IsFirstNearest fs i f → g.depth ≤ℤ f.depth → IsFirstNearest (fs ++ g ∷ []) i f
still_nearest fs i f g r l =
    let P : Fragment → Type 0 = λ e. e.depth ≤ℤ f.depth in
    let old : All P fs = All-from_get_or P fs f r.greatest in
    let all = All-push P fs g old l in
    let here : i < length fs = r.place in
    record {
      place = simp length-append (omega arith);
      at_place = get_or-append fs (g ∷ []) f i here ∙ r.at_place;
      greatest = λ k h. all k f h;
      first = λ k h. let in' : k < length fs = omega arith in rw (get_or-append fs (g ∷ []) f k in') (r.first k h);
    }

pub nearest-nil : nearest [] ≡ None
unfolding nearest
nearest-nil = refl

-- one more fragment at the end
pub nearest-append : (fs : List Fragment) (g : Fragment) → nearest (fs ++ g ∷ []) ≡ nearer (nearest fs) (Some g)
nearest-append [] g = nearest_is (g ∷ []) 0 g (only_nearest g) ∙ sym (rw nearest-nil)
nearest-append (f ∷ fs) g =
    let n = some_nearest f fs in
    let before : nearest (f ∷ fs) ≡ Some n.f = nearest_is (f ∷ fs) n.i n.f n.is in
    by_lt_z n.f.depth g.depth
    (λ l.
    let test : false ≡ int_le g.depth n.f.depth = omega (arith, ints) in
    nearest_is ((f ∷ fs) ++ g ∷ []) (length (f ∷ fs)) g (last_nearest (f ∷ fs) n.i n.f g n.is l) ∙ sym (rw (before, sym test)))
    (λ l.
    let test : true ≡ int_le g.depth n.f.depth = omega (arith, ints) in
    nearest_is ((f ∷ fs) ++ g ∷ []) n.i n.f (still_nearest (f ∷ fs) n.i n.f g n.is l) ∙ sym (rw (before, sym test)))

-- what is seen is the color of the first of the nearest
pub shows_first_nearest : (fs : List Fragment)
    → ((fs ≡ []) × (visible_color fs ≡ black))
    ⊎ ((i : ℕ) × (f : Fragment) × IsFirstNearest fs i f × (visible_color fs ≡ f.color))
shows_first_nearest [] = inl (refl, rw nearest-nil)
shows_first_nearest (f ∷ fs) =
    let n = some_nearest f fs in
    inr (n.i, n.f, n.is, rw (nearest_is (f ∷ fs) n.i n.f n.is))
