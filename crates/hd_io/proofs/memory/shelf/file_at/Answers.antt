use Rattle.std.proofs.Common.{Some}
use Rattle.hd_io.specs.Files.{file_list}
use Rattle.hd_io.specs.MemoryShelf.{IsPlaced}
use Rattle.hd_io.proofs.Placing.{open_file}
use Rattle.hd_io.proofs.memory.shelf.file_at.Goals as goal

pub returns-clause-name : goal.returns-clause-name
returns-clause-name c =
    let placed : IsPlaced (file_list c.args.files.now) (Some c.in-Some.index) c.args.taken = rw c.in-Some.is at c.requires.placed in
    let file = open_file c.args.files.now c.in-Some.index c.index-files-index.result c.args.taken c.index-files-index.is placed in
    rw (c.in-Some.is, c.as_str.ensures.value) file.named

pub returns-clause-bytes : goal.returns-clause-bytes
returns-clause-bytes c =
    let placed : IsPlaced (file_list c.args.files.now) (Some c.in-Some.index) c.args.taken = rw c.in-Some.is at c.requires.placed in
    let file = open_file c.args.files.now c.in-Some.index c.index-files-index.result c.args.taken c.index-files-index.is placed in
    rw (c.as_str.ensures.value, c.as_slice.ensures.value) file.held

pub returns-clause-within : goal.returns-clause-within
returns-clause-within c =
    let placed : IsPlaced (file_list c.args.files.now) (Some c.in-Some.index) c.args.taken = rw c.in-Some.is at c.requires.placed in
    let file = open_file c.args.files.now c.in-Some.index c.index-files-index.result c.args.taken c.index-files-index.is placed in
    rw c.as_slice.ensures.value file.within
