use Rattle.std.proofs.Common.{◌≡◌, ◌++◌, drop}
use Rattle.std.specs.List.{flat_map}
use Rattle.hd_dump.specs.Texts.{list_text}
use Rattle.hd_dump.proofs.items.push_list.Given as goal

abbrev pub invariant-rest : goal.invariant-rest
invariant-rest g l =
    l.text.items ++ flat_map (λ y. l.separator ++ g.T.Item.written_as y) (drop l.item-index l.rest) ≡ l.fn.text.items ++ list_text g.T.Item.written_as l.separator l.items
