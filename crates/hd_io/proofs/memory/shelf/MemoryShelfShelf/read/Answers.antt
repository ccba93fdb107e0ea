use Rattle.std.proofs.Common.{◌≡◌, ◌∙◌, sym, Some}
use Rattle.hd_io.specs.Failures.{failed_name}
use Rattle.hd_io.specs.Files.{file_list}
use Rattle.hd_io.specs.MemoryShelf.{shelf_state, name_at}
use Rattle.hd_io.specs.contracts.memory.shelf.MemoryShelf.{the_view}
use Rattle.hd_io.proofs.Placing.{noted_at}
use Rattle.hd_io.proofs.memory.shelf.MemoryShelfShelf.read.Goals as goal

pub returns-then-fails-clause-failed : goal.returns-then-fails-clause-failed
returns-then-fails-clause-failed c =
    let named : name_at (file_list c.self.inside.files.items) c.self.inside.reading ≡ Some c.file_at.result.0.now = rw c.deref.ensures.value at c.file_at.ensures.name in
    λ is.
    let noted = c.fail.ensures.noted is in
    let same : failed_name c.fail.new.self ≡ name_at (file_list c.self.inside.files.items) c.self.inside.reading = noted.noted ∙ sym named in
    rw (← c.self.view_is) (record { counted = noted.counted; noted = noted_at (shelf_state (the_view c.self.inside)) c.fail.new.self.count (failed_name c.fail.new.self) same })
