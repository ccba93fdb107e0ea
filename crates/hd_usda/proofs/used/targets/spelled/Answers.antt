use Rattle.std.proofs.Common.{◌∙◌, sym}
use Rattle.hd_usda.specs.used.Targets.{names_of}
use Rattle.hd_usda.proofs.Ascii.{prim_path_ascii}
use Rattle.hd_usda.proofs.PrimPaths.{spells_path, spelled_text, spelled_path, spelled_fault}
use Rattle.hd_usda.proofs.used.targets.spelled.Goals as goal

pub as_text-requires : goal.as_text-requires
as_text-requires c = prim_path_ascii c.args.text.now c.requires.path

pub no_memory-requires : goal.no_memory-requires
no_memory-requires c =
    let text = c.args.text.now in
    spelled_fault (names_of text) c.in-Err.fault
    (c.in-Err.ensures.only (names_of text) (spells_path text c.requires.path c.requires.shallow c.requires.short) (spelled_text text c.requires.path ∙ sym c.as_text.ensures))

pub returns-in-Ok-clause-path : goal.returns-in-Ok-clause-path
returns-in-Ok-clause-path c =
    let text = c.args.text.now in
    spelled_path (names_of text) c.in-Ok.path
    (c.in-Ok.ensures.only (names_of text) (spells_path text c.requires.path c.requires.shallow c.requires.short) (spelled_text text c.requires.path ∙ sym c.as_text.ensures))
