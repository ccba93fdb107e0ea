use Rattle.std.proofs.Common.{refl, arith}
use Rattle.std.proofs.lemmas.List.FromFn.{map-range_with_len_more}
use Rattle.hd_picture.specs.raster.Tiles.{tile}
use Rattle.hd_app.proofs.frame.tiles_of.Goals as goal

pub tiles-preserved : goal.tiles-preserved
tiles-preserved c =
    let more = map-range_with_len_more (tile c.args.draws.now) 0 c.tiles.n c.tiles.n (omega arith) in
    rw (c.in_ok-push.ensures.items, c.tile.ensures, c.tiles.invariant, more) refl
