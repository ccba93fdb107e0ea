use Rattle.std.proofs.Common.{◌≡◌, ◌∙◌, ◌++◌, ap, sym, Some, slice_get, unwrap_or, [], ℕ}
use Rattle.std.specs.Option.{option_map}
use Rattle.std.specs.List.{enumerate_from, flat_map}
use Rattle.std.proofs.lemmas.Option.{slice_get-map}
use Rattle.indexmap.specs.IndexMap.{keys}
use Rattle.hd_rprim.specs.declared.buffer.Buffer.TheVariants.{Points}
use Rattle.hd_dump.specs.Lines.{entry_line}
use Rattle.hd_dump.specs.inner.Numbering.{slot_entry_line, content_or_none, uses_at}
use Rattle.hd_dump.proofs.Agreement.{kept_at}
use Rattle.hd_dump.proofs.Lists.{numbered_piece_appended}
use Rattle.hd_dump.proofs.dump.push_entries.Goals as goal

pub content-requires-after_bounds : goal.content-requires-after_bounds
content-requires-after_bounds c κs =
    let found : slice_get (keys c.args.users.now) c.entries.number ≡ Some c.in-Some.slot.now =
    slice_get-map (λ (e : ℕ × ℕ). e.0) c.args.users.now.entries c.entries.number ∙ ap (option_map (λ (e : ℕ × ℕ). e.0)) (sym c.in-Some.ensures.entry) in
    kept_at c.args.registry.now (keys c.args.users.now) c.entries.number c.in-Some.slot.now c.requires found

pub entries-preserved : goal.entries-preserved
entries-preserved c =
    let found : slice_get (keys c.args.users.now) c.entries.number ≡ Some c.in-Some.slot.now =
    slice_get-map (λ (e : ℕ × ℕ). e.0) c.args.users.now.entries c.entries.number ∙ ap (option_map (λ (e : ℕ × ℕ). e.0)) (sym c.in-Some.ensures.entry) in
    let content : c.deref.result.now ≡ content_or_none c.args.registry.now c.in-Some.slot.now =
    c.deref.ensures ∙ sym (ap (λ o. unwrap_or o (Points [])) c.content.ensures.content) in
    let count : c.in-Some.count.now ≡ uses_at c.args.users.now c.in-Some.slot.now = sym (ap (λ o. unwrap_or o 0) c.in-Some.ensures.value) in
    let line : entry_line c.entries.number c.deref.result.now c.in-Some.count.now ≡ slot_entry_line c.args.registry.now c.args.users.now (c.entries.number, c.in-Some.slot.now) =
    (λ i. entry_line c.entries.number (content i) (count i)) in
    rw (c.in_ok-push_entry-in-Some.ensures, line)
    (numbered_piece_appended (slot_entry_line c.args.registry.now c.args.users.now) c.entries.text.items
    (c.args.text.now.items ++ flat_map (slot_entry_line c.args.registry.now c.args.users.now) (enumerate_from 0 (keys c.args.users.now)))
    (keys c.args.users.now) c.entries.number c.in-Some.slot.now found c.entries.invariant)
