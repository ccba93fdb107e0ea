-- Rows of pixels, one after the other.
use Rattle.std.proofs.Common.{◌≡◌, ℕ, zero, suc, ◌+◌, List, [], ◌∷◌, ◌++◌, refl, map, sym, ap, ◌∙◌, arith, add-zero, add-one, append_assoc}
use Rattle.std.specs.List.{range_with_len, flat_map}
use Rattle.std.proofs.lemmas.Grind.{flat_map-append}
use Rattle.std.proofs.lemmas.List.{flat_map_more}
use Rattle.std.proofs.lemmas.List.FromFn.{map-range_with_len_more}

range_more : (a n : ℕ) → range_with_len a (suc n) ≡ range_with_len a n ++ (a + n) ∷ []
range_more a zero = rw add-zero refl
range_more a (suc n) =
    let moved : a + 1 + n ≡ a + suc n = omega arith in
    ap (λ (xs : List ℕ). a ∷ xs) (range_more (a + 1) n ∙ ap (λ (m : ℕ). range_with_len (a + 1) n ++ m ∷ []) moved)

next_range : (n : ℕ) → range_with_len 0 (n + 1) ≡ range_with_len 0 n ++ n ∷ []
next_range n = rw add-one (range_more 0 n ∙ ap (λ (m : ℕ). range_with_len 0 n ++ m ∷ []) (omega arith))

rows_more : {A : Type 0} (row : ℕ → List A) (n : ℕ) → flat_map row (range_with_len 0 n) ++ row n ≡ flat_map row (range_with_len 0 (n + 1))
rows_more row n = flat_map_more row [] (range_with_len 0 n) n ∙ ap (flat_map row) (sym (next_range n))

-- the bytes of one row more
pub bytes_of_rows : {A B : Type 0} (bytes : A → List B) (row : ℕ → List A) (head : List B) (n : ℕ)
    → (head ++ flat_map bytes (flat_map row (range_with_len 0 n))) ++ flat_map bytes (row n) ≡ head ++ flat_map bytes (flat_map row (range_with_len 0 (n + 1)))
bytes_of_rows {A} {B} bytes row head n =
    append_assoc head (flat_map bytes (flat_map row (range_with_len 0 n))) (flat_map bytes (row n))
    ∙ ap (λ (b : List B). head ++ b) (sym (flat_map-append bytes (flat_map row (range_with_len 0 n)) (row n)) ∙ ap (flat_map bytes) (rows_more row n))

-- the bytes of one pixel more in a row
pub bytes_of_row : {A B : Type 0} (bytes : A → List B) (pixel : ℕ → A) (head : List B) (n : ℕ)
    → (head ++ flat_map bytes (map pixel (range_with_len 0 n))) ++ bytes (pixel n) ≡ head ++ flat_map bytes (map pixel (range_with_len 0 (n + 1)))
bytes_of_row {A} {B} bytes pixel head n =
    flat_map_more bytes head (map pixel (range_with_len 0 n)) (pixel n)
    ∙ ap (λ (pixels : List A). head ++ flat_map bytes pixels) (sym (map-range_with_len_more pixel 0 n n (omega arith)))
