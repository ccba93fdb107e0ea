use Rattle.std.proofs.Common.{◌≡◌, ◌∷◌, [], None, IfOk, sym, ap, subst, ◌∙◌}
use Rattle.hd_value.specs.declared.container.Entry.{Entry}
use Rattle.hd_value.specs.inner.Entries.{source_with, entry_at, AreEntries}
use Rattle.hd_value.specs.Maps.{Map}
use Rattle.hd_value.proofs.Getting.{map_of}
use Rattle.hd_value.proofs.Setting.{alone_entries, alone_level}
use Rattle.hd_value.proofs.container.+alone.Goals as goal

pub container_with-of_entry-requires : goal.container_with-of_entry-requires
container_with-of_entry-requires t c =
    let only : c.in_ok-entry_at.field-0 ≡ entry_at c.args.first.now (source_with None c.args.rest.now c.args.value) =
    c.in_ok-entry_at.ensures ∙ ap (entry_at c.args.first.now) c.in_ok-source.ensures
    in
    subst (λ (e : Entry). AreEntries (e ∷ [])) (sym only) (alone_entries c.args.first.now c.args.rest.now c.args.value)

pub container_with-returns : goal.container_with-returns
container_with-returns t c =
    let only : c.in_ok-entry_at.field-0 ≡ entry_at c.args.first.now (source_with None c.args.rest.now c.args.value) =
    c.in_ok-entry_at.ensures ∙ ap (entry_at c.args.first.now) c.in_ok-source.ensures
    in
    subst (λ (m : Map). IfOk c.of_entry.result (λ container. container ≡ m)) (ap (λ e. map_of (e ∷ [])) only ∙ alone_level c.args.first.now c.args.rest.now c.args.value) c.of_entry.ensures
