-- Buffers that compare equal are the same.
use Rattle.std.specs.Prelude.{◌≡◌, true}
use Rattle.std.specs.Bool.{Decides}
use Rattle.std.specs.Cmp.Lexicographic.{pointwise_decides}
use Rattle.std.proofs.Common.{ap}
use Rattle.std.proofs.lemmas.Bool.{false≢true}
use Rattle.std.proofs.lemmas.Bool.Decides.{Decides-eqb, Decides-int_eq, Decides-and, Decides-like}
use Rattle.hd_num.specs.declared.vector.Rgb.{Rgb}
use Rattle.hd_num.specs.declared.vector.Vec3.{Vec3}
use Rattle.hd_num.specs.contracts.vector.RgbPartialEq.TheImpl as color
use Rattle.hd_num.specs.contracts.vector.Vec3PartialEq.TheImpl as point
use Rattle.hd_rprim.specs.contracts.buffer.TriPartialEq.TheImpl as triangle
use Rattle.hd_rprim.specs.contracts.buffer.BufferPartialEq.TheImpl as buffer
use Rattle.hd_rprim.specs.contracts.buffer.BufferEq.TheImpl.Laws.{laws-law}
use Rattle.hd_rprim.specs.declared.buffer.Tri.{Tri}
use Rattle.hd_rprim.specs.declared.buffer.Buffer.{Buffer}
use Rattle.hd_rprim.specs.declared.buffer.Buffer.TheVariants.{Points, Triangles, Colors}

-- points that are equal number by number are the same
point_Decides : (p q : Vec3) → Decides ((point.ghosts).eq p q) (p ≡ q)
point_Decides p q =
    Decides-like
    _
    (λ same i. record { x = same.0 i; y = same.1.0 i; z = same.1.1 i })
    (λ same. (ap (λ (v : Vec3). v.x) same, (ap (λ (v : Vec3). v.y) same, ap (λ (v : Vec3). v.z) same)))
    (Decides-and _ _ (Decides-int_eq p.x q.x) (Decides-and _ _ (Decides-int_eq p.y q.y) (Decides-int_eq p.z q.z)))

-- and so are triangles
triangle_Decides : (p q : Tri) → Decides ((triangle.ghosts).eq p q) (p ≡ q)
triangle_Decides p q =
    Decides-like
    _
    (λ same i. record { a = same.0 i; b = same.1.0 i; c = same.1.1.0 i; face = same.1.1.1 i })
    (λ same. (ap (λ (t : Tri). t.a) same, (ap (λ (t : Tri). t.b) same, (ap (λ (t : Tri). t.c) same, ap (λ (t : Tri). t.face) same))))
    (Decides-and _ _ (Decides-int_eq p.a q.a) (Decides-and _ _ (Decides-int_eq p.b q.b) (Decides-and _ _ (Decides-int_eq p.c q.c) (Decides-eqb p.face q.face))))

-- and colors
color_Decides : (p q : Rgb) → Decides ((color.ghosts).eq p q) (p ≡ q)
color_Decides p q =
    Decides-like
    _
    (λ same i. record { r = same.0 i; g = same.1.0 i; b = same.1.1 i })
    (λ same. (ap (λ (c : Rgb). c.r) same, (ap (λ (c : Rgb). c.g) same, ap (λ (c : Rgb). c.b) same)))
    (Decides-and _ _ (Decides-eqb p.r q.r) (Decides-and _ _ (Decides-eqb p.g q.g) (Decides-eqb p.b q.b)))

-- buffers that are equal item by item are the same
pub same_buffer : (x y : Buffer) → (buffer.ghosts).eq x y ≡ true → x ≡ y
same_buffer (Points xs) (Points ys) same = ap Points ((pointwise_decides point_Decides xs ys).0 same)
same_buffer (Triangles xs) (Triangles ys) same = ap Triangles ((pointwise_decides triangle_Decides xs ys).0 same)
same_buffer (Colors xs) (Colors ys) same = ap Colors ((pointwise_decides color_Decides xs ys).0 same)
same_buffer (Points xs) (Triangles ys) same = absurd (false≢true same)
same_buffer (Points xs) (Colors ys) same = absurd (false≢true same)
same_buffer (Triangles xs) (Points ys) same = absurd (false≢true same)
same_buffer (Triangles xs) (Colors ys) same = absurd (false≢true same)
same_buffer (Colors xs) (Points ys) same = absurd (false≢true same)
same_buffer (Colors xs) (Triangles ys) same = absurd (false≢true same)

-- each buffer equals itself
pub buffer_itself : (x : Buffer) → (buffer.ghosts).eq x x ≡ true
buffer_itself x = laws-law.refl x
