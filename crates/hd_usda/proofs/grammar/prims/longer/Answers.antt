use Rattle.hd_usda.proofs.ChildPaths.{prim_name_ascii, child_fault}
use Rattle.hd_usda.proofs.grammar.prims.longer.Goals as goal

pub as_text-requires : goal.as_text-requires
as_text-requires c = prim_name_ascii c.args.name.now c.requires.name

pub no_memory-requires : goal.no_memory-requires
no_memory-requires c = child_fault c.args.path.now c.args.name.now c.as_text.result.now c.in-Err.fault c.requires.name c.requires.room c.as_text.ensures c.in-Err.ensures
