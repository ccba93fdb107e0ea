use Rattle.std.proofs.Common.{◌≡◌, rules}
use Rattle.std.proofs.lemmas.Fn.{always_returns_same}
use Rattle.hd_path.specs.Paths.{path_cmp}
use Rattle.hd_rprim.proofs.Sorting.{searched}
use Rattle.hd_rprim.proofs.row_table.place_of.Goals as goal

-- each call of the closure gives the order of a row's path to the one that is sought
pub returns : goal.returns
returns c =
    let facts = c.binary_search_by.ensures in
    let by_order = facts.position (λ row. path_cmp row.path c.args.path.now) (always_returns_same _ (λ a r. r ≡ path_cmp a.0.now.path c.args.path.now) _ (λ a r g called. search rules)) in
    searched c.args.path.now c.args.rows.now c.binary_search_by.result c.requires facts.bound by_order
