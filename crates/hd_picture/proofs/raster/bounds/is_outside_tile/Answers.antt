use Rattle.std.proofs.Common.{arith, ◌≡◌, ap, refl, false, true}
use Rattle.std.proofs.lemmas.Int.{ints}
use Rattle.hd_picture.specs.declared.define.view.ScreenPoint.{ScreenPoint}
use Rattle.hd_picture.proofs.CrossProduct.{read}
use Rattle.hd_picture.proofs.raster.bounds.is_outside_tile.Goals as goal

pub are_disjoint-requires : goal.are_disjoint-requires
are_disjoint-requires c =
    let first = ap (λ (q : ScreenPoint). q.y) c.tile_pixel_center-first.ensures.value in
    let last = ap (λ (q : ScreenPoint). q.y) c.tile_pixel_center-last.ensures.value in
    omega (arith, ints)

pub are_disjoint-requires-2 : goal.are_disjoint-requires-2
are_disjoint-requires-2 c =
    let first = ap (λ (q : ScreenPoint). q.x) c.tile_pixel_center-first.ensures.value in
    let last = ap (λ (q : ScreenPoint). q.x) c.tile_pixel_center-last.ensures.value in
    omega (arith, ints)

pub returns-then-are_disjoint : goal.returns-then-are_disjoint
returns-then-are_disjoint c =
    let a : read c.args.screen.a.y ≡ c.args.screen.a.y = omega (arith, ints) in
    let b : read c.args.screen.b.y ≡ c.args.screen.b.y = omega (arith, ints) in
    let c' : read c.args.screen.c.y ≡ c.args.screen.c.y = omega (arith, ints) in
    let first : read c.tile_pixel_center-first.result.y ≡ c.tile_pixel_center-first.result.y = omega (arith, ints) in
    let last : read c.tile_pixel_center-last.result.y ≡ c.tile_pixel_center-last.result.y = omega (arith, ints) in
    let apart = rw (a, b, c', last, first) at (c.if-are_disjoint.ensures.0 refl) in (
      λ t q among box. (rw (c.tile_pixel_center-first.ensures.value, c.tile_pixel_center-last.ensures.value) at apart) q.y among.bottom among.top box.y,
      λ beside. refl,
    )

pub returns : goal.returns
returns c =
    let a : read c.args.screen.a.x ≡ c.args.screen.a.x = omega (arith, ints) in
    let b : read c.args.screen.b.x ≡ c.args.screen.b.x = omega (arith, ints) in
    let c' : read c.args.screen.c.x ≡ c.args.screen.c.x = omega (arith, ints) in
    let first : read c.tile_pixel_center-first.result.x ≡ c.tile_pixel_center-first.result.x = omega (arith, ints) in
    let last : read c.tile_pixel_center-last.result.x ≡ c.tile_pixel_center-last.result.x = omega (arith, ints) in
    let d : read c.args.screen.a.y ≡ c.args.screen.a.y = omega (arith, ints) in
    let e : read c.args.screen.b.y ≡ c.args.screen.b.y = omega (arith, ints) in
    let f : read c.args.screen.c.y ≡ c.args.screen.c.y = omega (arith, ints) in
    let first_y : read c.tile_pixel_center-first.result.y ≡ c.tile_pixel_center-first.result.y = omega (arith, ints) in
    let last_y : read c.tile_pixel_center-last.result.y ≡ c.tile_pixel_center-last.result.y = omega (arith, ints) in
    let columns = rw (c.tile_pixel_center-first.ensures.value, c.tile_pixel_center-last.ensures.value) at (rw (a, b, c', first, last) at c.are_disjoint-2.ensures) in
    let rows = rw (c.tile_pixel_center-first.ensures.value, c.tile_pixel_center-last.ensures.value) at (rw (d, e, f, last_y, first_y) at c.if-are_disjoint.ensures) in (
      λ t q among box. columns.0 t q.x among.left among.right box.x,
      λ beside. columns.1 (λ x left right across.
          let no : false ≡ true = rows.1 (λ y bottom top along.
          beside (record { x = x; y = y }) (record { left = left; right = right; bottom = bottom; top = top }) (record { x = across; y = along })) in
          cc),
    )
