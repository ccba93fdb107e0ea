use Rattle.std.proofs.Common.{rules, arith, ◌≡◌, ◌∙◌, get_or, pos, w64}
use Rattle.std.proofs.lemmas.Int.{to_z-of_z}
use Rattle.hd_picture.specs.declared.define.pixels.Fragment.{Fragment}
use Rattle.hd_picture.proofs.TileLemmas.{least_first, least_more, least_of_all}
use Rattle.hd_picture.proofs.CrossProduct.{read}
use Rattle.hd_picture.proofs.raster.depth_buffer.min_depth_of.Goals as goal

abbrev zeros : Fragment
zeros = record { depth = pos 0; color = record { r = 0; g = 0; b = 0 } }

pub loop-held-init : goal.loop-held-init
loop-held-init c = least_first c.args.depth_buffer.now zeros _ c.requires (to_z-of_z w64 (get_or c.args.depth_buffer.now 0 zeros).depth (search rules))

pub loop-held-preserved : goal.loop-held-preserved
loop-held-preserved c =
    let depth : read (get_or c.args.depth_buffer.now c.loop-held.held-index zeros).depth ≡ (get_or c.args.depth_buffer.now c.loop-held.held-index zeros).depth =
    to_z-of_z w64 (get_or c.args.depth_buffer.now c.loop-held.held-index zeros).depth (search rules) in
    let least : read c.min-least.result ≡ c.min-least.result = to_z-of_z w64 c.min-least.result (search rules) in
    least_more c.args.depth_buffer.now c.loop-held.held-index zeros _ _ c.requires c.loop-held-test.true (least ∙ (rw depth at c.min-least.ensures.value)) c.loop-held.invariant

pub returns : goal.returns
returns c =
    let all = c.loop-held-test.false in
    let whole = c.requires in
    least_of_all c.args.depth_buffer.now c.loop-held.held-index _ (omega arith) c.loop-held.invariant
