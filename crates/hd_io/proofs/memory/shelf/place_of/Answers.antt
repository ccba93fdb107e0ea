use Rattle.std.proofs.Common.{◌≡◌, ◌∙◌, true, false, sym, arith, string_bytes}
use Rattle.std.proofs.lemmas.List.{at_drop_all}
use Rattle.std.specs.Str.{bytes_eq}
use Rattle.hd_io.specs.Files.{file_list}
use Rattle.hd_io.proofs.Finding.{first_of, bytes_of-first_of, passed, found}
use Rattle.hd_io.proofs.memory.shelf.place_of.Goals as goal

pub returns-then-eq : goal.returns-then-eq
returns-then-eq c =
    let same : bytes_eq c.args.name.now (string_bytes c.index-files-index.result.name) ≡ true = cc in
    found c.args.files.now c.loop-index.index c.index-files-index.result c.args.name.now (omega arith) c.index-files-index.is same c.loop-index.invariant

pub loop-index-preserved : goal.loop-index-preserved
loop-index-preserved c =
    let other : bytes_eq c.args.name.now (string_bytes c.index-files-index.result.name) ≡ false = cc in
    passed c.args.files.now c.loop-index.index c.index-files-index.result c.args.name.now (omega arith) c.index-files-index.is other ∙ c.loop-index.invariant

pub returns : goal.returns
returns c =
    let none = at_drop_all (λ files. first_of c.args.name.now (file_list files)) c.args.files.now c.loop-index.index c.loop-index-test.false in
    bytes_of-first_of (file_list c.args.files.now) c.args.name.now ∙ sym c.loop-index.invariant ∙ none
