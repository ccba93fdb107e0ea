use Rattle.std.proofs.Common.{length, ap, ◌∙◌, arith}
use Rattle.hd_path.proofs.Building.{cut_at, IsPath-drop, slashed_prefix-le}
use Rattle.hd_path.proofs.NamePrefixes.{take-is_prefix}
use Rattle.hd_path.proofs.Prefixes.{drop-slashed_prefix}
use Rattle.hd_path.proofs.path.Path.slashed_after.Goals as goal

pub range_from-requires : goal.range_from-requires
range_from-requires c = λ _. cut_at c.names_text.result.now c.args.self.now (length c.names_text-front.result.now) c.names_text.ensures.text c.names_text.ensures.path
    (omega (arith, ap length c.names_text.ensures.text, ap length c.names_text-front.ensures.text, slashed_prefix-le c.args.self.now c.args.prefix.now (take-is_prefix c.args.prefix.now c.args.self.now c.requires)))

pub returns-clause-text : goal.returns-clause-text
returns-clause-text c =
    c.range_from.ensures.value ∙ rw (c.names_text.ensures.text, c.names_text-front.ensures.text) (drop-slashed_prefix c.args.self.now c.args.prefix.now (take-is_prefix c.args.prefix.now c.args.self.now c.requires))

pub returns-clause-path : goal.returns-clause-path
returns-clause-path c = IsPath-drop (length c.args.prefix.now) c.args.self.now c.names_text.ensures.path
