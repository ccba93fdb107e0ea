use Rattle.hd_path.proofs.Spelling.{text_spells_path, spelled_path_has_text}
use Rattle.hd_path.proofs.laws.text_is_one_to_one.Goals as goal

pub returns-clause-spelled : goal.returns-clause-spelled
returns-clause-spelled c = text_spells_path

pub returns-clause-text : goal.returns-clause-text
returns-clause-text c = spelled_path_has_text
