use Rattle.std.proofs.Common.{◌≡◌, [], ◌∷◌, ℕ, List, set, Some, OnOk, sym, ap, subst, ◌∙◌, arith, rules}
use Rattle.std.specs.List.{insert}
use Rattle.std.proofs.lemmas.Result.{on_ok_weaker, on_err_weaker}
use Rattle.hd_value.specs.declared.container.Entry.{Entry}
use Rattle.hd_value.specs.declared.container.Source.{Source}
use Rattle.hd_value.specs.Levels.{level_map}
use Rattle.hd_value.specs.inner.Entries.{source_at, source_with, entry_at, IsPlace, IsGap, AreEntries, IsLevel}
use Rattle.hd_value.specs.Maps.{Map, set_at, IsFree}
use Rattle.hd_value.proofs.Getting.{map_of}
use Rattle.hd_value.proofs.Sorting.{at_place, set_place, insert_gap, none_in_gap}
use Rattle.hd_value.proofs.Setting.{filled_with, set_in_level, free_within, put_entries, cloned_items}
use Rattle.hd_value.proofs.container.+put.Goals as goal

pub put-invariant_of-container-in-Some : goal.put-invariant_of-container-in-Some
put-invariant_of-container-in-Some t c =
    let t = c.args.first.now in
    let at = c.args.rest.now in
    let lent = c.in_ok-make_mut-in-Some.field-0.now in
    let same : lent.items ≡ c.in-Some.level.value.items = cloned_items c.in-Some.level.value lent c.in_ok-make_mut-in-Some.ensures.value in
    let whole : AreEntries lent.items = subst AreEntries (sym same) (subst IsLevel c.in-Some.is c.container.invariant) in
    let is : c.args.container.now ≡ map_of lent.items = sym c.container.view_is ∙ ap level_map c.in-Some.is ∙ ap map_of (sym same) in
    let free : IsFree (map_of lent.items) (t ∷ at) = subst (λ (k : Map). IsFree k (t ∷ at)) is c.requires in
    let written : (c.make_mut.follows.lender c.put_in.new.entries).value ≡ c.put_in.new.entries = c.make_mut.follows.holds c.put_in.new.entries (search rules) in
    subst AreEntries (ap (λ v. v.items) (sym written))
    (put_entries c.put_in.result t (source_with (source_at t lent.items) at c.args.value) lent.items c.put_in.new.entries.items whole (filled_with lent.items t at c.args.value whole free) c.put_in.ensures.ok c.put_in.ensures.err)

pub put-returns-in_ok-make_mut-in-Some-clause-ok : goal.put-returns-in_ok-make_mut-in-Some-clause-ok
put-returns-in_ok-make_mut-in-Some-clause-ok t c =
    let t = c.args.first.now in
    let at = c.args.rest.now in
    let lent = c.in_ok-make_mut-in-Some.field-0.now in
    let same : lent.items ≡ c.in-Some.level.value.items = cloned_items c.in-Some.level.value lent c.in_ok-make_mut-in-Some.ensures.value in
    let whole : AreEntries lent.items = subst AreEntries (sym same) (subst IsLevel c.in-Some.is c.container.invariant) in
    let is : c.args.container.now ≡ map_of lent.items = sym c.container.view_is ∙ ap level_map c.in-Some.is ∙ ap map_of (sym same) in
    let free : IsFree (map_of lent.items) (t ∷ at) = subst (λ (k : Map). IsFree k (t ∷ at)) is c.requires in
    let written : (c.make_mut.follows.lender c.put_in.new.entries).value ≡ c.put_in.new.entries = c.make_mut.follows.holds c.put_in.new.entries (search rules) in
    on_ok_weaker c.put_in.result
    (λ put. ap map_of (ap (λ v. v.items) written ∙ put) ∙ set_in_level lent.items t at c.args.value whole free ∙ ap (λ k. set_at k (t ∷ at) c.args.value) (sym is)) c.put_in.ensures.ok

pub put-returns-in_ok-make_mut-in-Some-clause-err : goal.put-returns-in_ok-make_mut-in-Some-clause-err
put-returns-in_ok-make_mut-in-Some-clause-err t c =
    let lent = c.in_ok-make_mut-in-Some.field-0.now in
    let same : lent.items ≡ c.in-Some.level.value.items = cloned_items c.in-Some.level.value lent c.in_ok-make_mut-in-Some.ensures.value in
    let is : c.args.container.now ≡ map_of lent.items = sym c.container.view_is ∙ ap level_map c.in-Some.is ∙ ap map_of (sym same) in
    let written : (c.make_mut.follows.lender c.put_in.new.entries).value ≡ c.put_in.new.entries = c.make_mut.follows.holds c.put_in.new.entries (search rules) in
    on_err_weaker c.put_in.result (λ kept. ap map_of (ap (λ v. v.items) written ∙ kept) ∙ sym is) c.put_in.ensures.err

pub put_in-put_at-requires : goal.put_in-put_at-requires
put_in-put_at-requires t c =
    let es = c.args.entries.now.items in
    let entry = c.index_mut-entry.result.now in
    let place : IsPlace c.args.first.now es c.in-Ok.i =
    subst (λ (token : List ℕ). IsPlace token es c.in-Ok.i) c.text.ensures (subst (λ (fs : List Entry). IsPlace c.text.result.now fs c.in-Ok.i) c.deref.ensures.value c.in-Ok.ensures.found)
    in
    let there : source_at c.args.first.now es ≡ Some entry.source =
    at_place c.args.first.now es c.in-Ok.i entry c.requires.entries place.in_range (place.has_token entry) ∙ ap (λ e. Some e.source) (sym c.index_mut-entry.ensures.value)
    in
    (omega arith, free_within es c.args.first.now c.args.rest.now (Some entry.source) c.requires.entries there c.requires.free)

pub put_in-returns-in-Ok-clause-ok : goal.put_in-returns-in-Ok-clause-ok
put_in-returns-in-Ok-clause-ok t c =
    let t = c.args.first.now in
    let es = c.args.entries.now.items in
    let i = c.in-Ok.i in
    let entry = c.index_mut-entry.result.now in
    let place : IsPlace t es i =
    subst (λ (token : List ℕ). IsPlace token es i) c.text.ensures (subst (λ (fs : List Entry). IsPlace c.text.result.now fs i) c.deref.ensures.value c.in-Ok.ensures.found)
    in
    let there : source_at t es ≡ Some entry.source =
    at_place t es i entry c.requires.entries place.in_range (place.has_token entry) ∙ ap (λ e. Some e.source) (sym c.index_mut-entry.ensures.value)
    in
    let token : entry.token ≡ t = ap (λ e. e.token) c.index_mut-entry.ensures.value ∙ place.has_token entry in
    let after : Source = source_with (source_at t es) c.args.rest.now c.args.value in
    on_ok_weaker c.put_at.result
    (λ put.
    ap (λ s. set es i (record { token = entry.token; source = s })) (put ∙ ap (λ o. source_with o c.args.rest.now c.args.value) (sym there))
    ∙ ap (λ w. set es i (record { token = w; source = after })) token
    ∙ set_place t after es i entry c.requires.entries place.in_range (place.has_token entry)) c.put_at.ensures.ok

pub put_in-returns-in_ok-source_of-in-Err-clause-ok : goal.put_in-returns-in_ok-source_of-in-Err-clause-ok
put_in-returns-in_ok-source_of-in-Err-clause-ok t c =
    let t = c.args.first.now in
    let es = c.args.entries.now.items in
    let i = c.in-Err.i in
    let gap : IsGap t es i =
    subst (λ (token : List ℕ). IsGap token es i) c.text.ensures (subst (λ (fs : List Entry). IsGap c.text.result.now fs i) c.deref.ensures.value c.in-Err.ensures.missing)
    in
    on_ok_weaker c.insert_entry.result
    (λ put.
    put
    ∙ ap (λ s. insert es i (entry_at t s)) (c.in_ok-source_of-in-Err.ensures ∙ ap (λ o. source_with o c.args.rest.now c.args.value) (sym (none_in_gap t es i gap)))
    ∙ insert_gap t (source_with (source_at t es) c.args.rest.now c.args.value) es i gap) c.insert_entry.ensures.ok

pub put-returns-in-None-clause-ok : goal.put-returns-in-None-clause-ok
put-returns-in-None-clause-ok t c =
    let is : c.args.container.now ≡ map_of [] = sym c.container.view_is ∙ ap level_map c.in-None.is in
    subst (λ (m : Map). OnOk c.fill.result (c.fill.new.container ≡ set_at m (c.args.first.now ∷ c.args.rest.now) c.args.value)) (sym is) c.fill.ensures.ok
