use Rattle.std.proofs.Common.{◌≡◌, ◌∙◌, ◌+◌, ap, arith, nat_eq, unwrap_or}
use Rattle.std.specs.Map.{keys_of}
use Rattle.indexmap.specs.IndexMap.{get}
use Rattle.hd_dump.specs.inner.Numbering.{uses_at}
use Rattle.hd_dump.proofs.Counting.{slots_inserted, uses_counted}
use Rattle.hd_dump.proofs.users.count_use.Goals as goal

pub overflow_add-count : goal.overflow_add-count
overflow_add-count c =
    let room = c.requires c.in-Some.slot in
    let count : c.unwrap_or-count.result ≡ uses_at c.args.users.now c.in-Some.slot =
    c.unwrap_or-count.ensures ∙ ap (λ o. unwrap_or o 0) (c.copied.ensures ∙ c.get.ensures.value) in
    omega arith

pub returns : goal.returns
returns c =
    let count : c.unwrap_or-count.result ≡ uses_at c.args.users.now c.in-Some.slot =
    c.unwrap_or-count.ensures ∙ ap (λ o. unwrap_or o 0) (c.copied.ensures ∙ c.get.ensures.value) in
    rw c.in-Some.is
    (record {
      slots = ap keys_of c.in_ok-insert.ensures.entries ∙ slots_inserted c.args.users.now.entries c.in-Some.slot (c.unwrap_or-count.result + 1);
      users = λ slot. uses_counted (λ q. get nat_eq c.args.users.now q) _ c.in-Some.slot (c.unwrap_or-count.result + 1) slot
          (c.in_ok-insert.ensures.updates.0 slot) (ap (λ n. n + 1) count);
    })
