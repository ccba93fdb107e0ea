use Rattle.hd_lexer.specs.declared.lexer.Kind.TheVariants.{CloseRound, CloseSquare, CloseCurly, Colon, End}
use Rattle.hd_usda.specs.grammar.Value as values
use Rattle.hd_usda.specs.grammar.Metadata.{entry}
use Rattle.hd_usda.specs.used.Elements.{next_element}
use Rattle.hd_usda.specs.used.Targets.{in_list}
use Rattle.hd_usda.specs.used.Values.{numbers, triples, op_entries}
use Rattle.hd_usda.proofs.TakesRepeat.{past_repeats, all_repeats, chain_repeats}
use Rattle.hd_usda.proofs.TakesValues.{next_word_takes, value_takes, next_of_tuple_takes, next_of_list_takes, entry_of_dict_takes, entry_takes}
use Rattle.hd_usda.proofs.TakesUsed.{next_number_takes, next_triple_takes, next_op_entry_takes, next_target_takes}
use Rattle.hd_usda.specs.grammar.Header as header
use Rattle.hd_usda.specs.grammar.Attribute.{next_sample}
use Rattle.hd_usda.specs.grammar.Prims.{item, prim, root_item}
use Rattle.hd_usda.proofs.TakesItems.{next_word_takes as next_name_word_takes, next_sample_takes}
use Rattle.hd_usda.proofs.TakesPrims.{item_takes, prim_keeps, root_item_takes}
use Rattle.hd_usda.proofs.laws.repetition_never_runs_out.Goals as goal

pub returns-clause-key_words : goal.returns-clause-key_words
returns-clause-key_words c = chain_repeats Colon values.next_word next_word_takes

pub returns-clause-tuples : goal.returns-clause-tuples
returns-clause-tuples c level = past_repeats CloseRound (values.next_of_tuple (values.value level)) (next_of_tuple_takes (values.value level) (value_takes level))

pub returns-clause-lists : goal.returns-clause-lists
returns-clause-lists c level = past_repeats CloseSquare (values.next_of_list (values.value level)) (next_of_list_takes (values.value level) (value_takes level))

pub returns-clause-dictionaries : goal.returns-clause-dictionaries
returns-clause-dictionaries c level = past_repeats CloseCurly (values.entry_of_dict (values.value level)) (entry_of_dict_takes (values.value level) (value_takes level))

pub returns-clause-entries : goal.returns-clause-entries
returns-clause-entries c = past_repeats CloseRound entry entry_takes

pub returns-clause-numbers : goal.returns-clause-numbers
returns-clause-numbers c = all_repeats CloseSquare (next_element numbers) next_number_takes

pub returns-clause-triples : goal.returns-clause-triples
returns-clause-triples c = all_repeats CloseSquare (next_element triples) next_triple_takes

pub returns-clause-op_entries : goal.returns-clause-op_entries
returns-clause-op_entries c = all_repeats CloseSquare (next_element op_entries) next_op_entry_takes

pub returns-clause-targets : goal.returns-clause-targets
returns-clause-targets c = all_repeats CloseSquare (next_element in_list) next_target_takes

pub returns-clause-name_words : goal.returns-clause-name_words
returns-clause-name_words c = chain_repeats Colon header.next_word next_name_word_takes

pub returns-clause-samples : goal.returns-clause-samples
returns-clause-samples c = past_repeats CloseCurly next_sample next_sample_takes

pub returns-clause-items : goal.returns-clause-items
returns-clause-items c room path counts = all_repeats CloseCurly (item (prim room path) counts) (item_takes (prim room path) (prim_keeps room path) counts)

pub returns-clause-prims : goal.returns-clause-prims
returns-clause-prims c = all_repeats End root_item root_item_takes
