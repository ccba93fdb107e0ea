-- The kind that layers have together, layer by layer.
use Rattle.std.proofs.Common.{◌≡◌, ℕ, ◌+◌, ◌≤◌, zero, suc, true, if◌then◌else◌, List, [], ◌∷◌, length, map, drop, Option, Some, None, refl, sym, ◌∙◌, ap, arith}
use Rattle.std.proofs.lemmas.List.{drop_all}
use Rattle.std.specs.Prelude.{slice_get}
use Rattle.std.specs.FinMap.{get}
use Rattle.std.specs.List.{cons_option}
use Rattle.std.specs.Option.{option_map, option_or}
use Rattle.hd_scene.specs.declared.prims.Entry.{Entry}
use Rattle.hd_scene.specs.Scenes.{kind_at}
use Rattle.hd_retained.specs.Edits.{State}
use Rattle.hd_retained.specs.Layers.{LayerPrim, Layer, entry_of, scene_of, kind_in}
use Rattle.hd_retained.proofs.Kept.{get-scene}
use Rattle.hd_merging.specs.Merges.{first_kind, merged_entry, prims_at}
use Rattle.hd_merging.specs.inner.MergedScenes.{get-merged}
use Rattle.hd_stack.specs.Stacks.{composed_scene}
use Rattle.hd_stack.specs.inner.Kinds.{is_named, kind_over}
use Rattle.hd_stack.specs.inner.Terminals.{layers_of}
use Rattle.hd_path.specs.Paths.{Path}
use Rattle.hd_path.specs.Names.{Name}

abbrev kind_of : Option Entry → Option (List ℕ)
kind_of there = option_map (λ (e : Entry). e.kind) there

over_none : (kind : Option (List ℕ)) → kind_over kind None ≡ kind
over_none None = refl
over_none (Some []) = refl
over_none (Some (letter ∷ kind)) = refl

pub none_over : (kind : Option (List ℕ)) → kind_over None kind ≡ kind
none_over None = refl
none_over (Some kind) = refl

two_kinds : (kind : Name) (kinds : List Name) → Some (first_kind (kind ∷ kinds)) ≡ kind_over (Some kind) (Some (first_kind kinds))
two_kinds [] kinds = refl
two_kinds (letter ∷ kind) kinds = refl

one_kind : (kind : Name) → Some (first_kind (kind ∷ [])) ≡ kind_over (Some kind) None
one_kind [] = refl
one_kind (letter ∷ kind) = refl

entry_over : (strong : Option Entry) (weak : List Entry) → kind_of (merged_entry (cons_option strong weak)) ≡ kind_over (kind_of strong) (kind_of (merged_entry weak))
entry_over None weak = sym (none_over (kind_of (merged_entry weak)))
entry_over (Some e) [] = one_kind e.kind
entry_over (Some e) (f ∷ weak) = two_kinds e.kind (map (λ (g : Entry). g.kind) (f ∷ weak))

kind_scene : (layer : Layer) (path : Path) → kind_at (scene_of layer) path ≡ kind_in layer path
kind_scene layer path = ap kind_of (get-scene layer path) ∙ same (get layer path)
  where
    same : (there : Option LayerPrim) → kind_of (option_map entry_of there) ≡ option_map (λ (p : LayerPrim). p.kind) there
    same None = refl
    same (Some p) = refl

-- no layer has a prim
pub kind_none : (path : Path) → kind_at (composed_scene []) path ≡ None
kind_none path = ap kind_of (get-merged [] path)

-- a layer, and weaker ones
pub kind_more : (layer : Layer) (layers : List Layer) (path : Path) → kind_at (composed_scene (layer ∷ layers)) path ≡ kind_over (kind_in layer path) (kind_at (composed_scene layers) path)
kind_more layer layers path =
    ap kind_of (get-merged (map scene_of (layer ∷ layers)) path)
    ∙ entry_over (get (scene_of layer) path) (prims_at (map scene_of layers) path)
    ∙ ap (λ (kind : Option (List ℕ)). kind_over kind (kind_of (merged_entry (prims_at (map scene_of layers) path)))) (kind_scene layer path)
    ∙ ap (λ (there : Option Entry). kind_over (kind_in layer path) (kind_of there)) (sym (get-merged (map scene_of layers) path))

over_empty : (middle weak : Option (List ℕ)) → kind_over (Some []) (kind_over middle weak) ≡ kind_over (kind_over (Some []) middle) weak
over_empty None None = refl
over_empty None (Some weak) = refl
over_empty (Some []) None = refl
over_empty (Some []) (Some weak) = refl
over_empty (Some (letter ∷ middle)) weak = refl

over_over : (strong middle weak : Option (List ℕ)) → kind_over strong (kind_over middle weak) ≡ kind_over (kind_over strong middle) weak
over_over None middle weak = none_over (kind_over middle weak) ∙ ap (λ (kind : Option (List ℕ)). kind_over kind weak) (sym (none_over middle))
over_over (Some []) middle weak = over_empty middle weak
over_over (Some (letter ∷ strong)) middle weak = refl

-- a kind that is not empty decides
pub named_over : (strong weak : Option (List ℕ)) → is_named strong ≡ true → kind_over strong weak ≡ strong
named_over strong weak named = ap (λ b. if b then strong else option_or weak strong) named

drop_next : (inputs : List State) (k : ℕ) (r : State) → slice_get inputs k ≡ Some r → drop k inputs ≡ r ∷ drop (suc k) inputs
drop_next [] zero r is = cc
drop_next [] (suc k) r is = cc
drop_next (s ∷ inputs) zero r is = let one : s ≡ r = cc in ap (λ (t : State). t ∷ inputs) one
drop_next (s ∷ inputs) (suc k) r is = drop_next inputs k r is

-- the kind of the inputs from a number on
abbrev pub kind_from : List State → ℕ → List (List ℕ) → Option (List ℕ)
kind_from inputs k path = kind_at (composed_scene (layers_of (drop k inputs))) path

pub kind_next : (inputs : List State) (k : ℕ) (r : State) (path : Path) → slice_get inputs k ≡ Some r → kind_from inputs k path ≡ kind_over (kind_in r.layer path) (kind_from inputs (k + 1) path)
kind_next inputs k r path is =
    let next : suc k ≡ k + 1 = omega arith in
    ap (λ (rest : List State). kind_at (composed_scene (layers_of rest)) path) (drop_next inputs k r is)
    ∙ kind_more r.layer (layers_of (drop (suc k) inputs)) path
    ∙ ap (λ (n : ℕ). kind_over (kind_in r.layer path) (kind_from inputs n path)) next

-- the kind that was found, and what is still to be asked
pub kind_asked : (inputs : List State) (k : ℕ) (r : State) (path : Path) (whole found kind : Option (List ℕ)) → slice_get inputs k ≡ Some r → kind ≡ kind_in r.layer path
    → whole ≡ kind_over found (kind_from inputs k path) → whole ≡ kind_over (kind_over found kind) (kind_from inputs (k + 1) path)
kind_asked inputs k r path whole found kind is own before =
    before
    ∙ ap (kind_over found) (kind_next inputs k r path is)
    ∙ over_over found (kind_in r.layer path) (kind_from inputs (k + 1) path)
    ∙ ap (λ (o : Option (List ℕ)). kind_over (kind_over found o) (kind_from inputs (k + 1) path)) (sym own)

pub all_asked : (inputs : List State) (k : ℕ) (path : Path) (whole found : Option (List ℕ)) → length inputs ≤ k → whole ≡ kind_over found (kind_from inputs k path) → found ≡ whole
all_asked inputs k path whole found end before =
    sym (
    before
    ∙ ap (λ (rest : List State). kind_over found (kind_at (composed_scene (layers_of rest)) path)) (drop_all k inputs end)
    ∙ ap (kind_over found) (kind_none path)
    ∙ over_none found
    )
