use Rattle.std.proofs.Common.{◌≡◌, rules, ◌∙◌, sym, to_z, of_z}
use Rattle.std.proofs.lemmas.Int.{to_z-of_z}
use mir.Syntax.{w128}
use Rattle.hd_picture.proofs.FloorDivision.{floor_div_is}
use Rattle.hd_picture.proofs.define.depth.wide_floor.Goals as goal

pub returns : goal.returns
returns c =
    let sum = to_z-of_z w128 c.args.sum c.ranges.sum in
    let area : to_z w128 (of_z w128 c.from.result) ≡ c.args.area = search rules in
    to_z-of_z w128 c.div_euclid.result (search rules) ∙ (rw (sum, area) at c.div_euclid.ensures) ∙ sym (floor_div_is c.args.sum c.args.area c.requires)
