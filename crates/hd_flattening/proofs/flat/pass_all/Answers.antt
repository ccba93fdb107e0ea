use Rattle.std.proofs.Common.{◌≡◌, ℕ, List, [], slice_index_or, ap, subst, ◌∙◌}
use Rattle.std.specs.Prelude.{OnOk}
use Rattle.hd_value.specs.Maps.{Map}
use Rattle.hd_flattening.specs.inner.FlatLocators.{passed_locators, with_passed}
use Rattle.hd_flattening.proofs.flat.pass_all.Goals as goal
use Rattle.hd_tokens.specs.Locators.{Locator}

-- the locators by their numbers
abbrev place : ℕ → List (List ℕ)
place number = slice_index_or passed_locators number []

more : (prim : Map) (at : Locator) {before now next : Map} → next ≡ with_passed prim now at → now ≡ before → next ≡ with_passed prim before at
more prim at put is = put ∙ ap (λ (m : Map). with_passed prim m at) is

pub returns : goal.returns
returns c =
    let prim : Map = c.args.values.now in
    let counts = more prim (place 1) c.in_ok-pass-2.ensures.ok c.in_ok-pass.ensures.ok in
    let indices = more prim (place 2) c.in_ok-pass-3.ensures.ok counts in
    let positions = more prim (place 3) c.in_ok-pass-4.ensures.ok indices in
    let numbers = more prim (place 4) c.in_ok-pass-5.ensures.ok positions in
    let prototypes = more prim (place 5) c.in_ok-pass-6.ensures.ok numbers in
    let color = more prim (place 6) c.in_ok-pass-7.ensures.ok prototypes in
    subst (λ (m : Map). OnOk c.pass-8.result (c.pass-8.new.flat ≡ with_passed prim m (place 7))) color c.pass-8.ensures.ok
