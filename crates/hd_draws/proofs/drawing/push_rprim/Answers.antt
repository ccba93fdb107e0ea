use Rattle.std.proofs.Common.{◌≡◌, ◌^◌, ◌<◌, ◌++◌, ◌∙◌, sym, subst, map, length, List, Err, OnOk}
use Rattle.hd_picture.specs.declared.draws.WorldTri.{WorldTri}
use Rattle.hd_sync.specs.Syncing.{content_given}
use Rattle.hd_rprim.specs.Shown.{shown}
use Rattle.hd_draws.specs.declared.fault.DrawsFault.TheVariants.{Triangles}
use Rattle.hd_draws.proofs.RowDraws.{visible_draws}
use Rattle.hd_draws.proofs.drawing.push_rprim.Goals as goal

pub returns-clause-pushed : goal.returns-clause-pushed
returns-clause-pushed c =
    let has = c.geometry_of.ensures in
    let entries = c.args.registry.now in
    let row = c.args.row.now in
    subst (λ (drawn : List WorldTri). OnOk c.push_placed.result (c.push_placed.new.tris ≡ c.args.tris.now ++ drawn))
    (visible_draws (map (shown entries) c.args.rows.now) c.args.path.now row (content_given entries row.points) (content_given entries row.triangles) (content_given entries row.colors) _ _ _ _ _ _
    c.if-not-row.false (sym c.is_for_pictures.ensures ∙ c.if-not-is_for_pictures.false)
    has.shape has.faces has.points has.triangles has.colors (c.as_slice.ensures.value ∙ c.in_ok-matrices.ensures entries))
    c.push_placed.ensures.pushed

pub returns-clause-many : goal.returns-clause-many
returns-clause-many c =
    let has = c.geometry_of.ensures in
    let entries = c.args.registry.now in
    let row = c.args.row.now in
    subst (λ (drawn : List WorldTri). c.push_placed.result ≡ Err Triangles → 2 ^ 20 < length (c.args.tris.now ++ drawn))
    (visible_draws (map (shown entries) c.args.rows.now) c.args.path.now row (content_given entries row.points) (content_given entries row.triangles) (content_given entries row.colors) _ _ _ _ _ _
    c.if-not-row.false (sym c.is_for_pictures.ensures ∙ c.if-not-is_for_pictures.false)
    has.shape has.faces has.points has.triangles has.colors (c.as_slice.ensures.value ∙ c.in_ok-matrices.ensures entries))
    c.push_placed.ensures.many
