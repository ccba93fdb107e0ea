-- How writes end.
use Rattle.std.proofs.Common.{◌≡◌, ◌⊎◌, ◌<◌, ◌≤◌, ℕ, List, [], ◌∷◌, length, true, false, refl, sym, subst, inl, inr, arith}
use Rattle.std.specs.Prelude.{nat_lt}
use Rattle.std.proofs.lemmas.Bool.Decides.{nat_tests}
use Rattle.hd_io.specs.declared.fault.OutsideFault.{OutsideFault}
use Rattle.hd_io.specs.declared.fault.OutsideFault.TheVariants.{Failed, NoMemory}
use Rattle.hd_picture.specs.define.Pixels.{picture}
use Rattle.hd_picture.specs.Ppm.{ppm}
use Rattle.hd_layer.specs.declared.limits.Which.TheVariants.{Triangles}
use Rattle.hd_layer.specs.declared.spec.LayerSpec.{LayerSpec}
use Rattle.hd_io.specs.Acts.{file, line, Outside, WroteCut, WriteCause}
use Rattle.hd_app.specs.declared.status.Status.{Status}
use Rattle.hd_app.specs.declared.status.Status.TheVariants.{Limit}
use Rattle.hd_app.specs.declared.status.Status.TheVariants as status
use Rattle.hd_app.specs.declared.status.Place.TheVariants.{File}
use Rattle.hd_app.specs.inner.Stages.{Ends, status_of_write}
use Rattle.hd_app.specs.Outcomes.{draw_outcome, picture_outcome, layer_frame, frame_line, triangle_limit}
use Rattle.hd_app.specs.Refusing.{Outcome, refusal_outcome}
use Rattle.hd_io.proofs.Cuts.{none_written}
use Rattle.hd_app.proofs.RunLemmas.{for_want_of_memory}

-- an interrupted write ends the run
pub broken : (outcome : Outcome) (before now : Outside) (fault : OutsideFault) → WroteCut outcome.acts before now → WriteCause before now fault
    → Ends outcome before now (status_of_write fault)
broken outcome before now Failed cut cause = inr (inl (record { ending = refl; written = cut; faults = cause }))
broken outcome before now NoMemory cut cause = inr (inr (record { ending = refl; written = cut; faults = cause }))

-- the acts of a frame, by its bytes
pub frame_broken : (name bytes text : List ℕ) (before now : Outside) (fault : OutsideFault) → text ≡ frame_line name
    → WroteCut (file name bytes ∷ line text ∷ []) before now → WriteCause before now fault
    → Ends (picture_outcome name bytes) before now (status_of_write fault)
frame_broken name bytes text before now fault is_line cut cause =
    let P : List ℕ → Type 0 = λ t. WroteCut (file name bytes ∷ line t ∷ []) before now in
    broken (picture_outcome name bytes) before now fault (subst P is_line cut) cause

-- memory ran out before anything was written
pub unwritten : (outcome : Outcome) (before : Outside) → Ends outcome before before status.NoMemory
unwritten outcome before = broken outcome before before NoMemory (none_written outcome.acts before) (record { rack = refl; sink = refl })

-- a layer that draws few triangles has a picture
few_drawn : (name out : List ℕ) (layer : LayerSpec) → length (layer_frame layer).tris ≤ triangle_limit
    → draw_outcome name out layer ≡ picture_outcome out (ppm 64 64 (picture (layer_frame layer)))
few_drawn name out layer few =
    let within : nat_lt triangle_limit (length (layer_frame layer).tris) ≡ false = grind (arith, nat_tests) in
    rw within refl

pub picture_drawn : (name out bytes : List ℕ) (layer : LayerSpec) (before now : Outside) (st : Status) → length (layer_frame layer).tris ≤ triangle_limit
    → bytes ≡ ppm 64 64 (picture (layer_frame layer)) → Ends (picture_outcome out bytes) before now st → Ends (draw_outcome name out layer) before now st
picture_drawn name out bytes layer before now st few is ends =
    subst (λ (o : Outcome). Ends o before now st) (sym (few_drawn name out layer few))
    (subst (λ (b : List ℕ). Ends (picture_outcome out b) before now st) is ends)

-- a layer that draws too many is refused
many_drawn : (name out : List ℕ) (layer : LayerSpec) → triangle_limit < length (layer_frame layer).tris
    → draw_outcome name out layer ≡ refusal_outcome (Limit (File name) Triangles triangle_limit)
many_drawn name out layer many =
    let beyond : nat_lt triangle_limit (length (layer_frame layer).tris) ≡ true = grind (arith, nat_tests) in
    rw beyond refl

pub too_many : (name out : List ℕ) (layer : LayerSpec) (refusal : Status) (before now : Outside) (st : Status) → triangle_limit < length (layer_frame layer).tris
    → (refusal ≡ Limit (File name) Triangles triangle_limit) ⊎ (refusal ≡ status.NoMemory) → Ends (refusal_outcome refusal) before now st
    → Ends (draw_outcome name out layer) before now st
too_many name out layer refusal before now st many (inl is) ends =
    subst (λ (o : Outcome). Ends o before now st) (sym (many_drawn name out layer many))
    (subst (λ (r : Status). Ends (refusal_outcome r) before now st) is ends)
too_many name out layer refusal before now st many (inr none) ends =
    for_want_of_memory (draw_outcome name out layer) before now st (subst (λ (r : Status). Ends (refusal_outcome r) before now st) none ends)
