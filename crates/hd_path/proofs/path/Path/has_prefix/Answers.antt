use Rattle.std.proofs.Common.{◌∙◌}
use Rattle.hd_path.proofs.Prefixes.{is_prefix-decided}
use Rattle.hd_path.proofs.path.Path.has_prefix.Goals as goal

pub returns : goal.returns
returns c =
    let t = c.as_bytes.ensures.value ∙ c.names_text.ensures.text in
    let f = c.as_bytes-2.ensures.value ∙ c.names_text-2.ensures.text in
    is_prefix-decided c.args.self.now c.args.other.now c.as_bytes.result.now c.as_bytes-2.result.now c.goes_on_at_slash.result t f c.names_text.ensures.path c.names_text-2.ensures.path c.goes_on_at_slash.ensures
