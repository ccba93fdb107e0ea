-- The words of a command, as the code holds them.
use Rattle.std.specs.Prelude.{map, string_bytes}
use Rattle.hd_app.specs.declared.words.CommandWords.{CommandWords}
use Rattle.hd_app.specs.declared.words.CommandWords.TheVariants.{Draw, Step}
use Rattle.hd_app.specs.Commands.{Program, draw, step}

abbrev pub program_seen : CommandWords → Program
program_seen (Draw layer out) = draw layer.now out.now
program_seen (Step layers script) = step (map string_bytes layers.now) script.now
