use Rattle.std.proofs.Common.{◌∙◌, ℕ, List, length, ap}
use Rattle.std.proofs.lemmas.List.FromFn.{length-map-range_with_len}
use Rattle.std.proofs.lemmas.Result.{IfOk-weaker}
use Rattle.hd_num.specs.declared.vector.Rgb.{Rgb}
use Rattle.hd_picture.specs.Ppm.{ppm}
use Rattle.hd_picture.specs.raster.Tiles.{tile, tile_count, pixels_in_tiles}
use Rattle.hd_picture.proofs.PictureFiles.{tiles_show}
use Rattle.hd_app.proofs.frame.frame_file.Goals as goal

pub ppm_of-requires-clause-whole : goal.ppm_of-requires-clause-whole
ppm_of-requires-clause-whole c =
    let draws = c.args.draws.now in
    ap length (c.deref.ensures.value ∙ c.in_ok-tiles.ensures) ∙ length-map-range_with_len (tile draws) 0 (tile_count draws.width draws.height)

pub returns : goal.returns
returns c =
    let draws = c.args.draws.now in
    let file : List (List Rgb) → List ℕ = λ tiles. ppm draws.width draws.height (pixels_in_tiles draws.width draws.height tiles) in
    IfOk-weaker c.ppm_of.result _ _
    (λ bytes is. is ∙ ap file (c.deref.ensures.value ∙ c.in_ok-tiles.ensures) ∙ ap (ppm draws.width draws.height) (tiles_show draws))
    c.ppm_of.ensures
