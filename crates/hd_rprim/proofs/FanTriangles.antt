-- The triangles of fans, and the indices of faces.
use Rattle.std.proofs.Common.{◌≡◌, ℕ, ◌+◌, ◌-◌, ◌<◌, ℤ, pos, nat_abs, List, [], ◌∷◌, ◌++◌, length, take, drop, true, false, cond, ap, sym, subst, ◌∙◌, arith}
use Rattle.std.specs.Prelude.{All, Contains}
use Rattle.std.specs.List.{range_with_len}
use Rattle.std.proofs.lemmas.List.{take-append-drop, nil_from_length}
use Rattle.std.proofs.lemmas.List.Elements.{All-nil, All-append, All-map, All-weaker, Contains-get_or, Contains-append_left, Contains-append_right}
use Rattle.std.proofs.lemmas.List.FromFn.{length-range_with_len, get_or-range_with_len, length-map-range_with_len}
use Rattle.std.proofs.lemmas.Bool.Decides.{Decides-eqb}
use Rattle.hd_rprim.specs.declared.buffer.Tri.{Tri}
use Rattle.hd_rprim.specs.Fans.{takes_all, faces, fan_triangle, fan, fans_from}
use Rattle.hd_rprim.specs.Laws.{FansHaveTwoFewer, IsOfMesh, TrianglesAreOfMesh, FacesAreAllIndices}
use Rattle.hd_rprim.proofs.Counting.{first_taken}

pub fans_have_two_fewer : FansHaveTwoFewer
fans_have_two_fewer number face = length-map-range_with_len (fan_triangle number face) 1 (length face - 2)

-- the face of a triangle is below a number, and its corners are among some indices
record IsAmong (high : ℕ) (indices : List ℤ) (triangle : Tri) : Type 0 where
  last : triangle.face < high
  a : Contains indices triangle.a
  b : Contains indices triangle.b
  c : Contains indices triangle.c

-- the corners of the triangles of a face are its indices
fan_among : (number high : ℕ) (face : List ℤ) → number < high → All (IsAmong high face) (fan number face)
fan_among number high face below =
    All-map
    (IsAmong high face)
    (fan_triangle number face)
    (range_with_len 1 (length face - 2))
    (λ i d within.
    let fewer : i < length face - 2 = omega (arith, length-range_with_len 1 (length face - 2)) in
    subst (λ (k : ℕ). IsAmong high face (fan_triangle number face k)) (sym (get_or-range_with_len 1 (length face - 2) i d fewer)) (of_corner (1 + i) (omega arith)))
  where
    of_corner : (k : ℕ) → k + 1 < length face → IsAmong high face (fan_triangle number face k)
    of_corner k inside = record {
      last = below;
      a = Contains-get_or face 0 (pos 0) (omega arith);
      b = Contains-get_or face k (pos 0) (omega arith);
      c = Contains-get_or face (k + 1) (pos 0) inside;
    }

-- a triangle among a part of the indices is among them
among_all : (high : ℕ) (part indices : List ℤ) → ((x : ℤ) → Contains part x → Contains indices x)
    → (triangle : Tri) → IsAmong high part triangle → IsAmong high indices triangle
among_all high part indices wider triangle h = record { last = h.last; a = wider triangle.a h.a; b = wider triangle.b h.b; c = wider triangle.c h.c }

-- what the front of a list or its rest has is in the list
in_front : (n : ℕ) (indices : List ℤ) (x : ℤ) → Contains (take n indices) x → Contains indices x
in_front n indices x h = subst (λ (xs : List ℤ). Contains xs x) (take-append-drop n indices) (Contains-append_left (take n indices) (drop n indices) x h)

in_rest : (n : ℕ) (indices : List ℤ) (x : ℤ) → Contains (drop n indices) x → Contains indices x
in_rest n indices x h = subst (λ (xs : List ℤ). Contains xs x) (take-append-drop n indices) (Contains-append_right (take n indices) (drop n indices) x h)

fans_among : (number high : ℕ) (counts indices : List ℤ) → number + length counts ≡ high → All (IsAmong high indices) (fans_from number (faces counts indices))
fans_among number high [] indices same = All-nil (IsAmong high indices)
fans_among number high (count ∷ counts) indices same =
    let n : ℕ = nat_abs count in
    All-append
    (IsAmong high indices)
    (fan number (take n indices))
    (fans_from (number + 1) (faces counts (drop n indices)))
    (All-weaker
    (IsAmong high (take n indices))
    (IsAmong high indices)
    (among_all high (take n indices) indices (in_front n indices))
    (fan number (take n indices))
    (fan_among number high (take n indices) (omega arith)))
    (All-weaker
    (IsAmong high (drop n indices))
    (IsAmong high indices)
    (among_all high (drop n indices) indices (in_rest n indices))
    (fans_from (number + 1) (faces counts (drop n indices)))
    (fans_among (number + 1) high counts (drop n indices) (omega arith)))

pub triangles_are_of_mesh : TrianglesAreOfMesh
triangles_are_of_mesh counts indices =
    elim (takes_all counts indices) as (λ b. All (IsOfMesh counts indices) (cond b (fans_from 0 (faces counts indices)) [])) [
      | true ↦
          All-weaker
          (IsAmong (length counts) indices)
          (IsOfMesh counts indices)
          (λ triangle h. record { face = h.last; a = h.a; b = h.b; c = h.c })
          (fans_from 0 (faces counts indices))
          (fans_among 0 (length counts) counts indices (omega arith))
      | false ↦ All-nil (IsOfMesh counts indices)
    ]

pub faces_are_all_indices : FacesAreAllIndices
faces_are_all_indices [] indices all =
    let none : 0 ≡ length indices = (Decides-eqb 0 (length indices)).0 all in
    sym (nil_from_length indices (sym none))
faces_are_all_indices (count ∷ counts) indices all =
    let n : ℕ = nat_abs count in
    ap (λ rest. take n indices ++ rest) (faces_are_all_indices counts (drop n indices) (first_taken count counts indices all)) ∙ take-append-drop n indices
