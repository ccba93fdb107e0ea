use Rattle.std.proofs.Common.{◌≡◌, ◌^◌, Err, map, rules, arith}
use Rattle.std.proofs.lemmas.Grind.{common_steps}
use Rattle.std.proofs.lemmas.List.Elements.{All-same}
use Rattle.hd_picture.specs.Limits.{IsTriWithin}
use Rattle.hd_rprim.specs.Shown.{shown}
use Rattle.hd_draws.specs.declared.fault.DrawsFault.TheVariants.{Triangles}
use Rattle.hd_draws.specs.DrawList.{shown_draws, draw_list}
use Rattle.hd_draws.proofs.Nearness.{draws_within}
use Rattle.hd_draws.proofs.Pushing.{flat_next, flat_more}
use Rattle.hd_draws.proofs.Rows.{shown_step}
use Rattle.hd_draws.proofs.drawing.draw_list.Goals as goal

pub returns-in_err-push_row-clause-many : goal.returns-in_err-push_row-clause-many
returns-in_err-push_row-clause-many c = λ is.
    let refused : c.push_row.result ≡ Err Triangles = search rules in
    flat_more (shown_draws (map (shown c.args.registry.now) c.args.rows.now)) c.loop-i.tris _ _ _ _ (2 ^ 20)
    (shown_step c.args.registry.now c.args.rows.now c.loop-i.i c.path_at-path.result.now c.row_at-row.result.now c.path_at-path.ensures c.row_at-row.ensures)
    c.loop-i.invariant (c.push_row.ensures.many refused)

pub loop-i-preserved : goal.loop-i-preserved
loop-i-preserved c =
    flat_next (shown_draws (map (shown c.args.registry.now) c.args.rows.now)) c.loop-i.tris c.push_row.new.tris _ _ _ _
    (shown_step c.args.registry.now c.args.rows.now c.loop-i.i c.path_at-path.result.now c.row_at-row.result.now c.path_at-path.ensures c.row_at-row.ensures)
    c.in_ok-push_row.ensures.pushed c.loop-i.invariant

pub returns-clause-near : goal.returns-clause-near
returns-clause-near c =
    let rows = map (shown c.args.registry.now) c.args.rows.now in
    let drawn : c.in_ok-into_list.field-0 ≡ draw_list rows = grind (arith, common_steps) in
    All-same (IsTriWithin (2 ^ 24)) c.in_ok-into_list.field-0 (draw_list rows) drawn (draws_within rows)
