use Rattle.std.proofs.Common.{◌≡◌, ◌∷◌, true, ap, sym, ◌∙◌, rules}
use Rattle.hd_path.specs.Names.{is_same}
use Rattle.hd_tokens.specs.Tables.{texts}
use Rattle.hd_value.proofs.Prefixes.{intersects_split}
use Rattle.hd_value.proofs.locator.+intersects_at.Goals as goal

pub returns-then-eq : goal.returns-then-eq
returns-then-eq n c =
    let x = c.in-Some.element.now in
    let y = c.in-Some-split_first.token.now.now in
    let elements : c.args.elements.now ≡ x ∷ c.in-Some.elements.now = search rules in
    let tokens : c.args.tokens.now ≡ c.in-Some-split_first.token.now ∷ c.in-Some-split_first.tokens.now = search rules in
    let same : is_same x y ≡ true = search rules in
    c.intersects_at.ensures ∙ sym (intersects_split c.args.elements.now (texts c.args.tokens.now) x y c.in-Some.elements.now (texts c.in-Some-split_first.tokens.now) elements (ap texts tokens) same)
