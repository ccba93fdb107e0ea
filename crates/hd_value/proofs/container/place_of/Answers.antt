use Rattle.std.proofs.Common.{◌≡◌, rules}
use Rattle.std.proofs.lemmas.Fn.{always_returns_same}
use Rattle.hd_path.specs.Names.{byte_order}
use Rattle.hd_value.proofs.Sorting.{searched}
use Rattle.hd_value.proofs.container.place_of.Goals as goal

-- each call of the closure gives the order of an entry's token to the one that is sought
pub returns : goal.returns
returns c =
    let facts = c.binary_search_by.ensures in
    let by_order = facts.position (λ entry. byte_order entry.token c.args.token.now) (always_returns_same _ (λ a r. r ≡ byte_order a.0.now.token c.args.token.now) _ (λ a r g called. search rules)) in
    searched c.args.token.now c.args.entries.now c.binary_search_by.result c.requires facts.bound by_order
