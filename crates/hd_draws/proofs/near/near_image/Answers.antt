use Rattle.std.proofs.Common.{ap, ◌∙◌}
use Rattle.hd_draws.specs.DrawList.{if_near}
use Rattle.hd_draws.proofs.Nearness.{far_too, image_same}
use Rattle.hd_draws.proofs.near.near_image.Goals as goal

pub returns-in_err-apply : goal.returns-in_err-apply
returns-in_err-apply c = c.from_residual.ensures ∙ far_too _ c.in_err-apply.ensures.exact

pub returns : goal.returns
returns c = c.if_near.ensures ∙ ap if_near (image_same _ _ c.in_ok-apply.ensures.exact)
