use Rattle.hd_lexer.specs.declared.lexer.Kind.TheVariants.{End}
use Rattle.hd_usda.specs.reading.Cursor.{count}
use Rattle.hd_usda.specs.grammar.Prims.{root_item}
use Rattle.hd_usda.specs.inner.PrimViews.{scope_view}
use Rattle.hd_usda.proofs.Collecting.{Collects}
use Rattle.hd_usda.proofs.grammar.prims.root_items.Given as goal

abbrev pub invariant-rest : goal.invariant-rest
invariant-rest l = Collects End root_item (scope_view l.fn.scope l.fn.builder) l.fn.cursor (scope_view l.scope l.builder) l.cursor

abbrev pub decreases-rest : goal.decreases-rest
decreases-rest l = count l.cursor
