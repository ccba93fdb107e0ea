-- A prim from its parts.
use Rattle.std.proofs.Common.{◌≡◌, ℕ, zero, suc, ◌-◌, ◌<◌, [], ◌∷◌, ◌++◌, Bool, Ok, Err, refl, arith}
use Rattle.hd_layer.specs.declared.fault.LayerFault.{LayerFault}
use Rattle.hd_layer.specs.declared.fault.LayerFault.TheVariants as faults
use Rattle.hd_lexer.specs.Lexing.{Tokens}
use Rattle.hd_usda.specs.reading.Cursor.{fault_in, Fails}
use Rattle.hd_usda.specs.grammar.Prims.{PrimScope, PrimHeader, prim_header, body, finish_prim, prim}
use Rattle.hd_path.specs.Paths.{Path}

pub prim_ends : (room : ℕ) (path : Path) (counts : Bool) (s : PrimScope) (ts u : Tokens) (h : PrimHeader)
    → room ≡ 0 → prim_header room counts s.builder.count s.names ts ≡ Ok (h, u) → prim room path counts s ts ≡ Ok (record s { names = h.named.names }, u)
unfolding prim
prim_ends zero path counts s ts u h none heads = rw heads refl
prim_ends (suc room) path counts s ts u h none heads = absurd (omega arith)

pub prim_is : (room : ℕ) (path own : Path) (counts : Bool) (s b : PrimScope) (ts u v : Tokens) (h : PrimHeader)
    → 0 < room → prim_header room counts s.builder.count s.names ts ≡ Ok (h, u) → own ≡ path ++ h.named.name ∷ []
    → body (prim (room - 1) own) counts (record s.builder { count = h.named.count }) u ≡ Ok (b, v)
    → prim room path counts s ts ≡ Ok (finish_prim counts own h s b, v)
unfolding prim
prim_is zero path own counts s b ts u v h some heads longer inner = absurd (omega arith)
prim_is (suc room) path own counts s b ts u v h some heads longer inner =
    let one : suc room - 1 ≡ room = omega arith in
    let bodies : body (prim room (path ++ h.named.name ∷ [])) counts (record s.builder { count = h.named.count }) u ≡ Ok (b, v) = rw (← longer, ← one) inner in
    rw (heads, bodies, longer) refl

pub prim_fails : (e : LayerFault) (room : ℕ) (path own : Path) (counts : Bool) (s : PrimScope) (ts u : Tokens) (h : PrimHeader)
    → 0 < room → prim_header room counts s.builder.count s.names ts ≡ Ok (h, u) → own ≡ path ++ h.named.name ∷ []
    → Fails e (body (prim (room - 1) own) counts (record s.builder { count = h.named.count }) u)
    → Fails e (prim room path counts s ts)
unfolding prim
prim_fails faults.NoMemory room path own counts s ts u h some heads longer inner = tt
prim_fails (faults.At line why) zero path own counts s ts u h some heads longer inner = absurd (omega arith)
prim_fails (faults.At line why) (suc room) path own counts s ts u h some heads longer inner =
    let one : suc room - 1 ≡ room = omega arith in
    let bodies : body (prim room (path ++ h.named.name ∷ [])) counts (record s.builder { count = h.named.count }) u ≡ Err (fault_in line why) = rw (← longer, ← one) inner in
    rw (heads, bodies) refl
