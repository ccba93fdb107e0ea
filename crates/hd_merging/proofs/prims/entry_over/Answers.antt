use Rattle.std.proofs.Common.{Option, sym, ◌∙◌, ap}
use Rattle.std.specs.List.{cons_option}
use Rattle.hd_scene.specs.declared.prims.Entry.{Entry}
use Rattle.hd_merging.specs.Merges.{merged_entry}
use Rattle.hd_merging.proofs.Together.{laid_on_some, laid_on_none}
use Rattle.hd_merging.proofs.prims.entry_over.Goals as goal

pub returns-in_ok-both-in-Some-Some : goal.returns-in_ok-both-in-Some-Some
returns-in_ok-both-in-Some-Some c = λ weaker is.
    laid_on_some c.in-Some-Some.strong c.in-Some-Some.weak c.in_ok-both-in-Some-Some.field-0 weaker (sym c.in-Some-Some.is-1 ∙ is) c.in_ok-both-in-Some-Some.ensures
    ∙ ap (λ (o : Option Entry). merged_entry (cons_option o weaker)) (sym c.in-Some-Some.is-0)

pub returns-in-Some-None : goal.returns-in-Some-None
returns-in-Some-None c = λ weaker is. laid_on_none c.in-Some-None.strong weaker (sym c.in-Some-None.is-1 ∙ is) ∙ ap (λ (o : Option Entry). merged_entry (cons_option o weaker)) (sym c.in-Some-None.is-0)
