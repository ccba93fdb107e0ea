use Rattle.std.proofs.Common.{◌+◌, ◌*◌}
use Rattle.hd_lexer.specs.declared.lexer.Kind.TheVariants.{CloseCurly}
use Rattle.hd_usda.specs.reading.Cursor.{count}
use Rattle.hd_usda.specs.grammar.Prims.{item, prim}
use Rattle.hd_usda.specs.inner.PrimViews.{scope_view}
use Rattle.hd_usda.proofs.Collecting.{Collects}
use Rattle.hd_usda.proofs.grammar.prims.+items.Given as goal

abbrev pub decreases-one_prim : goal.decreases-one_prim
decreases-one_prim l = 4 * l.room

abbrev pub decreases-item : goal.decreases-item
decreases-item l = 4 * l.room + 1

abbrev pub decreases-items : goal.decreases-items
decreases-items l = 4 * l.room + 2

abbrev pub invariant-items-rest : goal.invariant-items-rest
invariant-items-rest l = Collects CloseCurly (item (prim l.room l.path) l.counts) (scope_view l.fn.scope l.fn.builder) l.fn.cursor (scope_view l.scope l.builder) l.cursor

abbrev pub decreases-items-rest : goal.decreases-items-rest
decreases-items-rest l = count l.cursor

abbrev pub decreases-body : goal.decreases-body
decreases-body l = 4 * l.room + 3
