use Rattle.std.proofs.Common.{◌∙◌, ap}
use Rattle.std.specs.List.{prefix_len}
use Rattle.hd_script.specs.Lines.{is_solid}
use Rattle.hd_script.proofs.Cutting.{cut_after_word}
use Rattle.hd_script.proofs.words.word_at.Goals as goal

pub range-requires-clause-end_boundary : goal.range-requires-clause-end_boundary
range-requires-clause-end_boundary c = cut_after_word c.args.text.now c.solid_len-len.result (c.solid_len-len.ensures.count ∙ ap (prefix_len is_solid) c.as_bytes.ensures.value)

pub range_from-requires : goal.range_from-requires
range_from-requires c = λ _. cut_after_word c.args.text.now c.solid_len-len.result (c.solid_len-len.ensures.count ∙ ap (prefix_len is_solid) c.as_bytes.ensures.value)
