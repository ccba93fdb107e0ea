-- The bits of groups, and those that locators reach.
use Rattle.std.proofs.Common.{◌≡◌, ℕ, ◌≤◌, ◌*◌, ◌^◌, Bool, true, false, List, [], ◌∷◌, ◌&&◌, ◌||◌, ◌==◌, cond, filter, max, min, ◌<◌, suc, zero, zero-mul, one-mul, eq-eqb, refl, ap, sym, subst, ◌∙◌, arith}
use Rattle.std.proofs.lemmas.Bool.{ne_eqb}
use Rattle.std.proofs.lemmas.Nat.{pow_pos}
use Rattle.std.specs.Prelude.{Contains}
use Rattle.std.specs.Int.{bit_at}
use Rattle.std.specs.Int.RustNames.{bit_and, bit_or}
use Rattle.std.proofs.lemmas.Nat.Bits.{same_from_bits, bit_at_or, bit_at_and, and_pow, bit_at-lt}
use Rattle.std.proofs.Math.Bool.{or-true, and-false}
use Rattle.hd_path.specs.Paths.{is_prefix}
use Rattle.hd_tokens.specs.Locators.{Locator}
use Rattle.hd_value.specs.declared.groups.Group.{Group}
use Rattle.hd_value.specs.declared.groups.Group.TheVariants.{Points, Topology, Color, Transform, Visibility, Purpose, Binding, Instancer, Instances, MaterialColor}
use Rattle.hd_value.specs.Groups.{locator_of_group}
use Rattle.hd_value.specs.Locators.{intersects}
use Rattle.hd_value.specs.LocatorSets.{touches}
use Rattle.hd_dirty.specs.Bits.{bit_of_group, has, bits_of_groups}
use Rattle.hd_dirty.specs.Kinds.{groups_of, all_of, bits_of}
use Rattle.hd_dirty.specs.Laws.{WithinAll, OfReachedGroups, UnionReachesBoth, GroupBelowIsReached, UnionHasBoth}

-- the place of a group's bit
place_of : Group → ℕ
place_of Points = 0
place_of Topology = 1
place_of Color = 2
place_of Transform = 3
place_of Visibility = 4
place_of Purpose = 5
place_of Binding = 6
place_of Instancer = 7
place_of Instances = 8
place_of MaterialColor = 9

bit-place : (group : Group) → bit_of_group group ≡ 2 ^ place_of group
unfolding place_of
bit-place Points = refl
bit-place Topology = refl
bit-place Color = refl
bit-place Transform = refl
bit-place Visibility = refl
bit-place Purpose = refl
bit-place Binding = refl
bit-place Instancer = refl
bit-place Instances = refl
bit-place MaterialColor = refl

-- a product with a power of two is that power where the factor is 1
is_one : (n p : ℕ) → 1 ≤ p → n ≤ 1 → (n * p == p) ≡ (n == 1)
is_one zero p h l = ne_eqb _ _ (λ e. omega (arith, zero-mul p))
is_one (suc n) p h l =
    let none : n ≡ 0 = omega arith in
    subst (λ (m : ℕ). (suc m * p == p) ≡ (suc m == 1)) (sym none) (eq-eqb _ _ (one-mul p))

has-bit : (bits : ℕ) (group : Group) → has bits group ≡ (bit_at bits (place_of group) == 1)
has-bit bits group =
    ap (λ (b : ℕ). bit_and bits b == b) (bit-place group)
    ∙ ap (λ (b : ℕ). b == 2 ^ place_of group) (and_pow bits (place_of group))
    ∙ is_one (bit_at bits (place_of group)) (2 ^ place_of group) (pow_pos (place_of group)) (let small : bit_at bits (place_of group) < 2 = bit_at-lt bits (place_of group) in omega arith)

-- the greater of two bits
either_bit : (m n : ℕ) → m < 2 → n < 2 → (max m n == 1) ≡ ((m == 1) || (n == 1))
either_bit zero zero h k = refl
either_bit zero (suc zero) h k = refl
either_bit (suc zero) zero h k = refl
either_bit (suc zero) (suc zero) h k = refl
either_bit (suc (suc m)) n h k = absurd (omega arith)
either_bit m (suc (suc n)) h k = absurd (omega arith)

pub union_has_both : UnionHasBoth
union_has_both bits others group =
    let k : ℕ = place_of group in
    has-bit (bit_or bits others) group
    ∙ ap (λ (m : ℕ). m == 1) (bit_at_or bits others k)
    ∙ either_bit (bit_at bits k) (bit_at others k) (bit_at-lt bits k) (bit_at-lt others k)
    ∙ ap (λ b. b || (bit_at others k == 1)) (sym (has-bit bits group))
    ∙ ap (λ b. has bits group || b) (sym (has-bit others group))

-- two groups that have one bit are one
one_group : (group other : Group) → has (bit_of_group group) other ≡ true → group ≡ other
one_group Points Points e = refl
one_group Topology Topology e = refl
one_group Color Color e = refl
one_group Transform Transform e = refl
one_group Visibility Visibility e = refl
one_group Purpose Purpose e = refl
one_group Binding Binding e = refl
one_group Instancer Instancer e = refl
one_group Instances Instances e = refl
one_group MaterialColor MaterialColor e = refl
one_group group other e = absurd (cc)

none_has : (group : Group) → has 0 group ≡ false
none_has Points = refl
none_has Topology = refl
none_has Color = refl
none_has Transform = refl
none_has Visibility = refl
none_has Purpose = refl
none_has Binding = refl
none_has Instancer = refl
none_has Instances = refl
none_has MaterialColor = refl

-- a group's bit is in those of the groups that pass where it is in those of all, and the group passes
has-filter : (test : Group → Bool) (groups : List Group) (group : Group) → has (bits_of_groups (filter test groups)) group ≡ (has (bits_of_groups groups) group && test group)
has-filter test [] group = none_has group ∙ sym (ap (λ b. b && test group) (none_has group))
has-filter test (g ∷ groups) group =
    with_test (test g) refl (has-filter test groups group) ∙ sym (ap (λ b. b && test group) (union_has_both (bit_of_group g) (bits_of_groups groups) group))
  where
    kept : ℕ
    kept = bits_of_groups (filter test groups)

    all : ℕ
    all = bits_of_groups groups

    its : (b : Bool) → has (bit_of_group g) group ≡ b → test g ≡ true → (b || (has all group && test group)) ≡ ((b || has all group) && test group)
    its true e t = sym (ap test (sym (one_group g group e)) ∙ t)
    its false e t = refl

    none : (b : Bool) → has (bit_of_group g) group ≡ b → test g ≡ false → (has all group && test group) ≡ ((b || has all group) && test group)
    none true e t = let fails : test group ≡ false = ap test (sym (one_group g group e)) ∙ t in ap (λ c. has all group && c) fails ∙ and-false (has all group) ∙ sym fails
    none false e t = refl

    with_test : (b : Bool) → test g ≡ b → has kept group ≡ (has all group && test group)
        → has (bits_of_groups (cond b (g ∷ filter test groups) (filter test groups))) group ≡ ((has (bit_of_group g) group || has all group) && test group)
    with_test true t e = union_has_both (bit_of_group g) kept group ∙ ap (λ b. has (bit_of_group g) group || b) e ∙ its (has (bit_of_group g) group) refl t
    with_test false t e = e ∙ none (has (bit_of_group g) group) refl t

pub of_reached_groups : OfReachedGroups
of_reached_groups kind set group = has-filter (λ group. touches set (locator_of_group group)) (groups_of kind) group

-- what passes is within the whole
within_filter : (test : Group → Bool) (groups : List Group) (i : ℕ) → bit_at (bits_of_groups (filter test groups)) i ≤ bit_at (bits_of_groups groups) i
within_filter test [] i = omega arith
within_filter test (g ∷ groups) i = by (test g) (within_filter test groups i)
  where
    by : (b : Bool) → bit_at (bits_of_groups (filter test groups)) i ≤ bit_at (bits_of_groups groups) i → bit_at (bits_of_groups (cond b (g ∷ filter test groups) (filter test groups))) i ≤ bit_at (bits_of_groups (g ∷ groups)) i
    by true h = omega (arith, bit_at_or (bit_of_group g) (bits_of_groups (filter test groups)) i, bit_at_or (bit_of_group g) (bits_of_groups groups) i)
    by false h = omega (arith, bit_at_or (bit_of_group g) (bits_of_groups groups) i)

pub within_all : WithinAll
within_all kind set =
    let all : ℕ = all_of kind in
    let reached : ℕ = bits_of kind set in
    let test : Group → Bool = λ group. touches set (locator_of_group group) in
    let same : bit_and all reached ≡ reached = same_from_bits (bit_and all reached) reached (λ i. bit_at_and all reached i ∙ lesser (bit_at all i) (bit_at reached i) (within_filter test (groups_of kind) i)) in
    eq-eqb _ _ same
  where
    lesser : (m n : ℕ) → n ≤ m → min m n ≡ n
    lesser m n h = omega arith

-- one more group
either_step : (test one other : Group → Bool) → ((group : Group) → test group ≡ (one group || other group)) → (g : Group) (groups : List Group) (i : ℕ)
    → bit_at (bits_of_groups (filter test groups)) i ≡ bit_at (bit_or (bits_of_groups (filter one groups)) (bits_of_groups (filter other groups))) i
    → bit_at (bits_of_groups (filter test (g ∷ groups))) i ≡ bit_at (bit_or (bits_of_groups (filter one (g ∷ groups))) (bits_of_groups (filter other (g ∷ groups)))) i
either_step test one other e g groups i h = by (test g) (one g) (other g) (e g)
  where
    a : ℕ
    a = bit_of_group g

    x : ℕ
    x = bits_of_groups (filter test groups)

    y : ℕ
    y = bits_of_groups (filter one groups)

    z : ℕ
    z = bits_of_groups (filter other groups)

    by : (t b c : Bool) → t ≡ (b || c)
        → bit_at (bits_of_groups (cond t (g ∷ filter test groups) (filter test groups))) i ≡ bit_at (bit_or (bits_of_groups (cond b (g ∷ filter one groups) (filter one groups))) (bits_of_groups (cond c (g ∷ filter other groups) (filter other groups)))) i
    by true true true p = omega (arith, h, bit_at_or y z i, bit_at_or a x i, bit_at_or a y i, bit_at_or a z i, bit_at_or (bit_or a y) (bit_or a z) i)
    by true true false p = omega (arith, h, bit_at_or y z i, bit_at_or a x i, bit_at_or a y i, bit_at_or (bit_or a y) z i)
    by true false true p = omega (arith, h, bit_at_or y z i, bit_at_or a x i, bit_at_or a z i, bit_at_or y (bit_or a z) i)
    by true false false p = absurd (cc)
    by false true c p = absurd (cc)
    by false false true p = absurd (cc)
    by false false false p = h

-- the bits of what passes either of two tests are those of both
either_test : (test one other : Group → Bool) → ((group : Group) → test group ≡ (one group || other group)) → (groups : List Group)
    → bits_of_groups (filter test groups) ≡ bit_or (bits_of_groups (filter one groups)) (bits_of_groups (filter other groups))
either_test test one other e groups = same_from_bits _ _ (λ i. bits_at i groups)
  where
    bits_at : (i : ℕ) (groups : List Group) → bit_at (bits_of_groups (filter test groups)) i ≡ bit_at (bit_or (bits_of_groups (filter one groups)) (bits_of_groups (filter other groups))) i
    bits_at i [] = sym (bit_at_or 0 0 i ∙ both (bit_at 0 i))
      where
        both : (n : ℕ) → max n n ≡ n
        both n = omega arith
    bits_at i (g ∷ groups) = either_step test one other e g groups i (bits_at i groups)

pub union_reaches_both : UnionReachesBoth
union_reaches_both kind set one other e =
    either_test (λ group. touches set (locator_of_group group)) (λ group. touches one (locator_of_group group)) (λ group. touches other (locator_of_group group)) (λ group. e (locator_of_group group)) (groups_of kind)

-- a set with a member above a locator intersects it
touches_below : (set : List Locator) (at x : Locator) → Contains set at → is_prefix at x ≡ true → touches set x ≡ true
touches_below [] at x (k, h, e) p = absurd (omega arith)
touches_below (member ∷ set) at x (zero, h, e) p = ap (λ (m : Locator). intersects m x || touches set x) e ∙ ap (λ b. (b || is_prefix x at) || touches set x) p
touches_below (member ∷ set) at x (suc k, h, e) p =
    ap (λ b. intersects member x || b) (touches_below set at x (k, omega arith, e) p) ∙ or-true (intersects member x)

pub group_below_is_reached : GroupBelowIsReached
group_below_is_reached kind set at group h p =
    of_reached_groups kind set group ∙ ap (λ b. has (all_of kind) group && b) (touches_below set at (locator_of_group group) h p) ∙ and_itself (has (all_of kind) group)
  where
    and_itself : (b : Bool) → (b && true) ≡ b
    and_itself true = refl
    and_itself false = refl
