use Rattle.std.proofs.Common.{◌∙◌, ap}
use Rattle.std.specs.List.{prefix_len}
use Rattle.hd_script.specs.Lines.{is_gap}
use Rattle.hd_script.proofs.Cutting.{cut_after_gaps}
use Rattle.hd_script.proofs.words.from_word.Goals as goal

pub range_from-requires : goal.range_from-requires
range_from-requires c = λ _. cut_after_gaps c.args.text.now c.gap_len.result c.utf8.text (c.gap_len.ensures.count ∙ ap (prefix_len is_gap) c.as_bytes.ensures.value)
