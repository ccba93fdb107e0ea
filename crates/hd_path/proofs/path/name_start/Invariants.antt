use Rattle.std.proofs.Common.{◌≡◌, ◌+◌, length, take}
use Rattle.hd_path.specs.Paths.{names_text}
use Rattle.hd_path.specs.Texts.{names_in}
use Rattle.hd_path.proofs.path.name_start.Given as goal

abbrev pub invariant-loop-name : goal.invariant-loop-name
invariant-loop-name l = l.start ≡ length (names_text (take l._name (names_in l.text))) + 1
