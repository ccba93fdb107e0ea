use Rattle.std.proofs.Common.{◌∷◌, ◌∙◌, sym}
use Rattle.std.proofs.lemmas.List.Elements.{filter_map-append}
use Rattle.hd_picture.specs.define.Pixels.{fragment}
use Rattle.hd_picture.proofs.laws.unseen_triangles_change_nothing.Goals as goal

pub returns : goal.returns
returns c = λ eye q before after tri none.
    filter_map-append (fragment eye q) before (tri ∷ after)
    ∙ (rw none (sym (filter_map-append (fragment eye q) before after)))
