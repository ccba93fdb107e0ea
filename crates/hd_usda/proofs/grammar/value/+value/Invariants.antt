use Rattle.std.proofs.Common.{◌+◌, ◌*◌}
use Rattle.hd_lexer.specs.declared.lexer.Kind.TheVariants.{CloseRound, CloseSquare, CloseCurly}
use Rattle.hd_usda.specs.reading.Cursor.{count}
use Rattle.hd_usda.specs.grammar.Value.{next_of_tuple, next_of_list, entry_of_dict, value}
use Rattle.hd_usda.proofs.Passing.{Leads}
use Rattle.hd_usda.proofs.grammar.value.+value.Given as goal

abbrev pub decreases-value : goal.decreases-value
decreases-value l = 4 * l.level

abbrev pub decreases-next_of_tuple : goal.decreases-next_of_tuple
decreases-next_of_tuple l = 4 * l.level + 1

abbrev pub decreases-next_of_list : goal.decreases-next_of_list
decreases-next_of_list l = 4 * l.level + 1

abbrev pub decreases-entry_of_dict : goal.decreases-entry_of_dict
decreases-entry_of_dict l = 4 * l.level + 1

abbrev pub decreases-rest_of_tuple : goal.decreases-rest_of_tuple
decreases-rest_of_tuple l = 4 * l.level + 2

abbrev pub decreases-rest_of_list : goal.decreases-rest_of_list
decreases-rest_of_list l = 4 * l.level + 2

abbrev pub decreases-dict : goal.decreases-dict
decreases-dict l = 4 * l.level + 2

abbrev pub decreases-tuple : goal.decreases-tuple
decreases-tuple l = 4 * l.level + 3

abbrev pub decreases-list : goal.decreases-list
decreases-list l = 4 * l.level + 3

abbrev pub invariant-rest_of_tuple-rest : goal.invariant-rest_of_tuple-rest
invariant-rest_of_tuple-rest l = Leads CloseRound (next_of_tuple (value l.level)) l.fn.cursor l.cursor

abbrev pub decreases-rest_of_tuple-rest : goal.decreases-rest_of_tuple-rest
decreases-rest_of_tuple-rest l = count l.cursor

abbrev pub invariant-rest_of_list-rest : goal.invariant-rest_of_list-rest
invariant-rest_of_list-rest l = Leads CloseSquare (next_of_list (value l.level)) l.fn.cursor l.cursor

abbrev pub decreases-rest_of_list-rest : goal.decreases-rest_of_list-rest
decreases-rest_of_list-rest l = count l.cursor

abbrev pub invariant-dict-rest : goal.invariant-dict-rest
invariant-dict-rest l = Leads CloseCurly (entry_of_dict (value l.level)) l.fn.cursor l.cursor

abbrev pub decreases-dict-rest : goal.decreases-dict-rest
decreases-dict-rest l = count l.cursor
