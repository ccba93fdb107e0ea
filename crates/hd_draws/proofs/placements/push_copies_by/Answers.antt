use Rattle.std.proofs.Common.{◌≡◌, ◌++◌, ◌∙◌, sym, ap, subst, map, true, List, OnOk}
use Rattle.hd_num.specs.Matrices.{Rows}
use Rattle.hd_path.specs.Paths.{is_prefix}
use Rattle.hd_draws.specs.Placements.{places_copies}
use Rattle.hd_draws.proofs.Copies.{copies_of_marked}
use Rattle.hd_draws.proofs.placements.push_copies_by.Goals as goal

pub returns : goal.returns
returns c =
    let places : places_copies c.args.instancer.now ≡ true = sym c.places_copies.ensures ∙ c.if-not-places_copies.false in
    let marked : c.as_slice.result.now ≡ map (λ target. is_prefix target c.args.path.now) c.args.instancer.now.targets =
    c.as_slice.ensures.value ∙ c.in_ok-marks.ensures ∙ ap (map (λ target. is_prefix target c.args.path.now)) c.items.ensures
    in
    subst (λ (copies : List Rows). OnOk c.push_marked.result (c.push_marked.new.made.items ≡ c.args.made.now.items ++ copies))
    (copies_of_marked c.args.path.now c.args.own.now c.args.instancer.now c.as_slice.result.now places marked) c.push_marked.ensures
