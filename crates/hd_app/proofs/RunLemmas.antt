-- How the parts of a run make the run.
use Rattle.std.proofs.Common.{◌≡◌, ◌⊎◌, ℕ, ◌∙◌, List, [], ◌∷◌, Option, Some, None, Ok, refl, sym, ap, subst, inl, inr}
use Rattle.std.proofs.Math.Seq.{take-nil}
use Rattle.std.specs.Prelude.{Bool, true, false, length, nat_lt, if◌then◌else◌, IfSome}
use Rattle.hd_layer.specs.declared.limits.Which.TheVariants.{Triangles}
use Rattle.hd_layer.specs.declared.spec.LayerSpec.{LayerSpec}
use Rattle.hd_picture.specs.define.Pixels.{picture}
use Rattle.hd_picture.specs.Ppm.{ppm}
use Rattle.hd_io.specs.Files.{FileList, FileMap}
use Rattle.hd_app.specs.declared.status.Status.{Status}
use Rattle.hd_app.specs.declared.status.Status.TheVariants.{Done, Usage, Layer, Script, Limit, ReadFault, WriteFault, NoMemory}
use Rattle.hd_io.specs.Acts.{Act, line, Cut, Outside, Adds, WroteCut, WriteFailed}
use Rattle.hd_app.specs.Commands.{Program, draw}
use Rattle.hd_app.specs.inner.Stages.{Ends, Runs}
use Rattle.hd_app.specs.Endings.{IsReadFault}
use Rattle.hd_app.specs.declared.status.Place.TheVariants.{File}
use Rattle.hd_app.specs.Outcomes.{outcome_of, layer_frame, triangle_limit, picture_outcome, draw_outcome, draw_if_read, layer_in}
use Rattle.hd_app.specs.Refusing.{Outcome, refusal_outcome}
use Rattle.hd_io.specs.Shelf.{ShelfState}
use Rattle.hd_app.specs.Runs.{IsOpen, IsAnswerTo}
use Rattle.hd_app.specs.inner.Refusals.{RefusesFiles}
use Rattle.hd_io.proofs.Cuts.{cut_nothing}
use Rattle.hd_app.proofs.InputLemmas.{draws_one, named_first}

-- of a line without bytes nothing can be written
empty_line : (files : FileList) (text : List ℕ) → Cut (line [] ∷ []) files text → (files ≡ []) × (text ≡ [])
empty_line files text (inl none) = none
empty_line files text (inr (inl part)) = (part.2, part.3 ∙ take-nil part.0)
empty_line files text (inr (inr whole)) = (whole.2.0, whole.1 ∙ whole.2.1)

of_nothing : (acts : List Act) (before now : Outside) → WroteCut (line [] ∷ []) before now → WroteCut acts before now
of_nothing acts before now cut =
    let none = empty_line cut.0 cut.1 cut.2 in
    let A : FileList → Type 0 = λ files. Adds files cut.1 before now in
    let B : List ℕ → Type 0 = λ text. Adds [] text before now in
    ([], [], cut_nothing acts, subst B none.1 (subst A none.0 cut.3))

-- a run that has no memory to refuse or to draw ends in any outcome's way
pub for_want_of_memory : (due : Outcome) (before now : Outside) (status : Status) → Ends (refusal_outcome NoMemory) before now status → Ends due before now status
for_want_of_memory due before now status (inl whole) =
    inr (inr (record { ending = whole.ending; written = ([], [], cut_nothing due.acts, whole.written.added); faults = whole.faults }))
for_want_of_memory due before now status (inr (inl off)) =
    inr (inl (record { ending = off.ending; written = of_nothing due.acts before now off.written; faults = off.faults }))
for_want_of_memory due before now status (inr (inr out)) =
    inr (inr (record { ending = out.ending; written = of_nothing due.acts before now out.written; faults = out.faults }))

-- the outcome of the files where they are told, and any other where they are not
due_of : Option Program → Option FileMap → Outcome → Outcome
due_of program None other = other
due_of program (Some files) other = outcome_of files program []

told_due : (program : Option Program) (told : Option FileMap) (other : Outcome) → IfSome told (λ files. outcome_of files program [] ≡ due_of program told other)
unfolding due_of
told_due program None other = tt
told_due program (Some files) other = refl

-- what holds of the outcome's own ending and of those of an interrupted run holds of the status
at_ends : (P : Status → Type 0) (outcome : Outcome) (before now : Outside) (status : Status) → P outcome.ending → P WriteFault → P NoMemory → Ends outcome before now status → P status
at_ends P outcome before now status own fault memory (inl whole) = subst P (sym whole.ending) own
at_ends P outcome before now status own fault memory (inr (inl off)) = subst P (sym off.ending) fault
at_ends P outcome before now status own fault memory (inr (inr out)) = subst P (sym out.ending) memory

answers : (program : Option Program) (shelf : ShelfState) (outcome : Outcome) (before now : Outside) (status : Status)
    → IsAnswerTo program shelf outcome.ending → Ends outcome before now status → IsAnswerTo program shelf status
answers program shelf outcome before now status own ends = at_ends (IsAnswerTo program shelf) outcome before now status own tt tt ends

no_read_fault : (outcome : Outcome) (before now : Outside) (status : Status)
    → (IsReadFault outcome.ending → ⊥) → Ends outcome before now status → IsReadFault status → ⊥
no_read_fault outcome before now status own ends = at_ends (λ s. IsReadFault s → ⊥) outcome before now status own (λ no. no) (λ no. no) ends

-- a write fault has its cause, where it is not the outcome's own
pub ends_in_fault : (due : Outcome) (before now : Outside) (status : Status) → (due.ending ≡ WriteFault → ⊥) → Ends due before now status → status ≡ WriteFault
    → WriteFailed before now
ends_in_fault due before now status other (inl whole) is = absurd (other (sym whole.ending ∙ is))
ends_in_fault due before now status other (inr (inl off)) is = off.faults
ends_in_fault due before now status other (inr (inr out)) is = let no : NoMemory ≡ WriteFault = sym out.ending ∙ is in cc

-- words that are no command
pub usage_runs : (shelf : ShelfState) (before now : Outside) (status : Status) → Ends (refusal_outcome Usage) before now status → Runs None shelf shelf before now status
usage_runs shelf before now status ends = inl (record {
  due = refusal_outcome Usage;
  ends = ends;
  told = elim shelf.files as (λ told. IfSome told (λ files. outcome_of files None [] ≡ refusal_outcome Usage)) [ None ↦ tt | Some files ↦ refl ];
  faults = refl;
  answer = answers None shelf (refusal_outcome Usage) before now status refl ends;
  read = no_read_fault (refusal_outcome Usage) before now status (λ no. no) ends;
  write = ends_in_fault (refusal_outcome Usage) before now status (λ (no : Usage ≡ WriteFault). cc) ends;
})

-- a run that ended by the outcome of its files
pub ran_runs : (program : Program) (due : Outcome) (shelf_before shelf_now : ShelfState) (before now : Outside) (status : Status)
    → IfSome shelf_before.files (λ files. outcome_of files (Some program) [] ≡ due) → shelf_now.faults ≡ shelf_before.faults
    → IsAnswerTo (Some program) shelf_now due.ending → (IsReadFault due.ending → ⊥) → (due.ending ≡ WriteFault → ⊥)
    → Ends due before now status → Runs (Some program) shelf_before shelf_now before now status
ran_runs program due shelf_before shelf_now before now status told kept answer read write ends = inl (record {
  due = due;
  ends = ends;
  told = told;
  faults = kept;
  answer = answers (Some program) shelf_now due before now status answer ends;
  read = no_read_fault due before now status read ends;
  write = ends_in_fault due before now status write ends;
})

told_drawn : (name out : List ℕ) (layer : LayerSpec) (told : Option FileMap) → IfSome told (λ files. layer_in files name ≡ Ok layer)
    → IfSome told (λ files. outcome_of files (Some (draw name out)) [] ≡ draw_outcome name out layer)
told_drawn name out layer None read = tt
told_drawn name out layer (Some files) read = ap (draw_if_read name out) read

-- the endings of a drawn layer: it was done, or it draws too many triangles
abbrev EndsDrawing : List ℕ → Status → Type 0
EndsDrawing name ending = (ending ≡ Done) ⊎ (ending ≡ Limit (File name) Triangles triangle_limit)

either_drawn : (name : List ℕ) (b : Bool) (x y : Outcome) → EndsDrawing name x.ending → EndsDrawing name y.ending → EndsDrawing name (if b then x else y).ending
either_drawn name true x y own other = own
either_drawn name false x y own other = other

draw_ends : (name out : List ℕ) (layer : LayerSpec) → EndsDrawing name (draw_outcome name out layer).ending
draw_ends name out layer =
    either_drawn name (nat_lt triangle_limit (length (layer_frame layer).tris))
    (refusal_outcome (Limit (File name) Triangles triangle_limit)) (picture_outcome out (ppm 64 64 (picture (layer_frame layer)))) (inr refl) (inl refl)

-- what such an ending says of itself
draw_answers : (name out : List ℕ) (shelf : ShelfState) (ending : Status) → IsOpen shelf name → EndsDrawing name ending → IsAnswerTo (Some (draw name out)) shelf ending
draw_answers name out shelf ending is_open (inl is) = subst (IsAnswerTo (Some (draw name out)) shelf) (sym is) (draws_one name out)
draw_answers name out shelf ending is_open (inr is) =
    subst (IsAnswerTo (Some (draw name out)) shelf) (sym is) (draws_one name out, named_first name name refl, refl, inr (refl, tt, is_open))

draw_reads : (name : List ℕ) (ending : Status) → EndsDrawing name ending → IsReadFault ending → ⊥
draw_reads name ending (inl is) fault = subst IsReadFault is fault
draw_reads name ending (inr is) fault = subst IsReadFault is fault

draw_writes : (name : List ℕ) (ending : Status) → EndsDrawing name ending → ending ≡ WriteFault → ⊥
draw_writes name ending (inl is) fault = let no : Done ≡ WriteFault = sym is ∙ fault in cc
draw_writes name ending (inr is) fault = let no : Limit (File name) Triangles triangle_limit ≡ WriteFault = sym is ∙ fault in cc

-- a layer that was read is drawn
pub drawn_runs : (name out : List ℕ) (layer : LayerSpec) (shelf_before shelf_now : ShelfState) (before now : Outside) (status : Status)
    → IfSome shelf_before.files (λ files. layer_in files name ≡ Ok layer) → shelf_now.faults ≡ shelf_before.faults → IsOpen shelf_now name
    → Ends (draw_outcome name out layer) before now status → Runs (Some (draw name out)) shelf_before shelf_now before now status
drawn_runs name out layer shelf_before shelf_now before now status read kept is_open ends =
    let due : Outcome = draw_outcome name out layer in
    let own = draw_ends name out layer in
    ran_runs (draw name out) due shelf_before shelf_now before now status
    (told_drawn name out layer shelf_before.files read) kept (draw_answers name out shelf_now due.ending is_open own)
    (draw_reads name due.ending own) (draw_writes name due.ending own) ends

-- files that were refused are told
pub refused_runs : (program : Program) (refusal : Status) (shelf_before shelf_now : ShelfState) (before now : Outside) (status : Status)
    → RefusesFiles program shelf_before shelf_now refusal
    → Ends (refusal_outcome refusal) before now status → Runs (Some program) shelf_before shelf_now before now status
refused_runs program (ReadFault name) shelf_before shelf_now before now status why ends = inr (record {
  file = name;
  reached = why.0;
  failed = why.1;
  ends = ends;
})
refused_runs program (Layer name row word) shelf_before shelf_now before now status why ends =
    ran_runs program (refusal_outcome (Layer name row word)) shelf_before shelf_now before now status why.told why.faults why.answer
    (λ no. no) (λ (no : Layer name row word ≡ WriteFault). cc) ends
refused_runs program (Limit place which count) shelf_before shelf_now before now status why ends =
    ran_runs program (refusal_outcome (Limit place which count)) shelf_before shelf_now before now status why.told why.faults why.answer
    (λ no. no) (λ (no : Limit place which count ≡ WriteFault). cc) ends
refused_runs program NoMemory shelf_before shelf_now before now status why ends = inl (record {
  due = due_of (Some program) shelf_before.files (refusal_outcome NoMemory);
  ends = for_want_of_memory (due_of (Some program) shelf_before.files (refusal_outcome NoMemory)) before now status ends;
  told = told_due (Some program) shelf_before.files (refusal_outcome NoMemory);
  faults = why;
  answer = answers (Some program) shelf_now (refusal_outcome NoMemory) before now status tt ends;
  read = no_read_fault (refusal_outcome NoMemory) before now status (λ no. no) ends;
  write = ends_in_fault (refusal_outcome NoMemory) before now status (λ (no : NoMemory ≡ WriteFault). cc) ends;
})
refused_runs program (Script row word) shelf_before shelf_now before now status why ends = absurd why
refused_runs program Done shelf_before shelf_now before now status why ends = absurd why
refused_runs program Usage shelf_before shelf_now before now status why ends = absurd why
refused_runs program WriteFault shelf_before shelf_now before now status why ends = absurd why
