-- What a run promises.
use Rattle.std.proofs.Common.{◌≡◌, ◌⊎◌, ℕ, ◌∙◌, List, [], Option, Some, None, sym, ap, subst, inl, inr}
use Rattle.std.specs.Prelude.{IfSome, IsSomeAnd}
use Rattle.hd_io.specs.Causes.{Rose}
use Rattle.hd_io.specs.Files.{FileMap}
use Rattle.hd_app.specs.declared.status.Status.{Status}
use Rattle.hd_app.specs.declared.status.Status.TheVariants.{ReadFault, WriteFault, NoMemory}
use Rattle.hd_io.specs.Acts.{Outside, Wrote, WroteCut, NoFault, WriteFailed}
use Rattle.hd_app.specs.Commands.{Program}
use Rattle.hd_app.specs.inner.Stages.{Ends, Runs}
use Rattle.hd_app.specs.Endings.{IsReadFault}
use Rattle.hd_app.specs.Outcomes.{outcome_of}
use Rattle.hd_app.specs.Refusing.{Outcome, refusal_outcome}
use Rattle.hd_io.specs.Shelf.{ShelfState}
use Rattle.hd_app.specs.Runs.{Interrupted}
use Rattle.hd_app.proofs.ActLemmas.{wrote_cut}
use Rattle.hd_app.proofs.RunLemmas.{ends_in_fault}

ending_told : (told : Option FileMap) (program : Option Program) (due : Outcome) (status : Status) → IfSome told (λ files. outcome_of files program [] ≡ due) → (status ≡ due.ending) ⊎ (status ≡ NoMemory)
    → IfSome told (λ files. (status ≡ (outcome_of files program []).ending) ⊎ (status ≡ NoMemory))
ending_told None program due status is ending = tt
ending_told (Some files) program due status is (inl own) = inl (own ∙ ap (λ (o : Outcome). o.ending) (sym is))
ending_told (Some files) program due status is (inr memory) = inr memory

ends_unfailed : (due : Outcome) (before now : Outside) (status : Status) → (Rose before.rack.faults now.rack.faults → ⊥) → (Rose before.sink.faults now.sink.faults → ⊥)
    → Ends due before now status → (status ≡ due.ending) ⊎ (status ≡ NoMemory)
ends_unfailed due before now status rack sink (inl whole) = inl whole.ending
ends_unfailed due before now status rack sink (inr (inl off)) = absurd (elim off.faults as (λ _. ⊥) [ inl r ↦ rack r | inr s ↦ sink s ])
ends_unfailed due before now status rack sink (inr (inr out)) = inr out.ending

-- where nothing failed, the answer is that of the outcome, but where memory ran out
pub complete : (program : Option Program) (shelf_before shelf_now : ShelfState) (before now : Outside) (status : Status)
    → Runs program shelf_before shelf_now before now status
    → (Rose shelf_before.faults shelf_now.faults → ⊥) → (Rose before.rack.faults now.rack.faults → ⊥) → (Rose before.sink.faults now.sink.faults → ⊥)
    → IfSome shelf_before.files (λ files. (status ≡ (outcome_of files program []).ending) ⊎ (status ≡ NoMemory))
complete program shelf_before shelf_now before now status (inl by_files) shelf rack sink =
    ending_told shelf_before.files program by_files.due status by_files.told (ends_unfailed by_files.due before now status rack sink by_files.ends)
complete program shelf_before shelf_now before now status (inr fault) shelf rack sink = absurd (shelf fault.failed.rose)

-- a read fault is answered only where the shelf failed
pub read_fault : (program : Option Program) (shelf_before shelf_now : ShelfState) (before now : Outside) (status : Status)
    → Runs program shelf_before shelf_now before now status → IsReadFault status → Rose shelf_before.faults shelf_now.faults
read_fault program shelf_before shelf_now before now status (inl by_files) is = absurd (by_files.read is)
read_fault program shelf_before shelf_now before now status (inr fault) is = fault.failed.rose

ends_in_line : (layer : List ℕ) (before now : Outside) (status : Status) → Ends (refusal_outcome (ReadFault layer)) before now status → IsReadFault status → Wrote (refusal_outcome status).acts before now
ends_in_line layer before now status (inl whole) is = subst (λ (s : Status). Wrote (refusal_outcome s).acts before now) (sym whole.ending) whole.written
ends_in_line layer before now status (inr (inl off)) is = absurd (subst IsReadFault off.ending is)
ends_in_line layer before now status (inr (inr out)) is = absurd (subst IsReadFault out.ending is)

-- and its line was written whole
pub read_fault_line : (program : Option Program) (shelf_before shelf_now : ShelfState) (before now : Outside) (status : Status)
    → Runs program shelf_before shelf_now before now status → IsReadFault status → Wrote (refusal_outcome status).acts before now
read_fault_line program shelf_before shelf_now before now status (inl by_files) is = absurd (by_files.read is)
read_fault_line program shelf_before shelf_now before now status (inr fault) is = ends_in_line fault.file before now status fault.ends is

ends_alone : (layer : List ℕ) (before now : Outside) (status : Status) → Ends (refusal_outcome (ReadFault layer)) before now status → IsReadFault status → NoFault before now
ends_alone layer before now status (inl whole) is = whole.faults
ends_alone layer before now status (inr (inl off)) is = absurd (subst IsReadFault off.ending is)
ends_alone layer before now status (inr (inr out)) is = absurd (subst IsReadFault out.ending is)

-- and neither the rack nor the sink failed
pub read_fault_alone : (program : Option Program) (shelf_before shelf_now : ShelfState) (before now : Outside) (status : Status)
    → Runs program shelf_before shelf_now before now status → IsReadFault status → NoFault before now
read_fault_alone program shelf_before shelf_now before now status (inl by_files) is = absurd (by_files.read is)
read_fault_alone program shelf_before shelf_now before now status (inr fault) is = ends_alone fault.file before now status fault.ends is

-- a write fault is answered only where the rack or the sink failed
pub write_fault : (program : Option Program) (shelf_before shelf_now : ShelfState) (before now : Outside) (status : Status)
    → Runs program shelf_before shelf_now before now status → status ≡ WriteFault
    → WriteFailed before now
write_fault program shelf_before shelf_now before now status (inl by_files) is = by_files.write is
write_fault program shelf_before shelf_now before now status (inr fault) is = ends_in_fault (refusal_outcome (ReadFault fault.file)) before now status (λ (no : ReadFault fault.file ≡ WriteFault). cc) fault.ends is

-- no run writes more than its outcome
ends_cut : (due : Outcome) (before now : Outside) (status : Status) → Ends due before now status → WroteCut due.acts before now
ends_cut due before now status (inl whole) = wrote_cut due.acts before now whole.written
ends_cut due before now status (inr (inl off)) = off.written
ends_cut due before now status (inr (inr out)) = out.written

cut_told : (told : Option FileMap) (program : Option Program) (due : Outcome) (shelf_before shelf_now : ShelfState) (before now : Outside)
    → IfSome told (λ files. outcome_of files program [] ≡ due) → WroteCut due.acts before now → IfSome told (λ files. Interrupted program files [] shelf_before shelf_now before now)
cut_told None program due shelf_before shelf_now before now is cut = tt
cut_told (Some files) program due shelf_before shelf_now before now is cut = inl (subst (λ (o : Outcome). WroteCut o.acts before now) (sym is) cut)

cut_by_fault : (told : Option FileMap) (program : Option Program) (file : List ℕ) (shelf_before shelf_now : ShelfState) (before now : Outside)
    → Rose shelf_before.faults shelf_now.faults → shelf_now.failed ≡ Some file → WroteCut (refusal_outcome (ReadFault file)).acts before now
    → IfSome told (λ files. Interrupted program files [] shelf_before shelf_now before now)
cut_by_fault None program file shelf_before shelf_now before now rose named cut = tt
cut_by_fault (Some files) program file shelf_before shelf_now before now rose named cut =
    inr (rose, subst (λ (o : Option (List ℕ)). IsSomeAnd o (λ name. WroteCut (refusal_outcome (ReadFault name)).acts before now)) (sym named) cut)

-- what an interrupted run has written
pub cut : (program : Option Program) (shelf_before shelf_now : ShelfState) (before now : Outside) (status : Status)
    → Runs program shelf_before shelf_now before now status → IfSome shelf_before.files (λ files. Interrupted program files [] shelf_before shelf_now before now)
cut program shelf_before shelf_now before now status (inl by_files) =
    cut_told shelf_before.files program by_files.due shelf_before shelf_now before now by_files.told (ends_cut by_files.due before now status by_files.ends)
cut program shelf_before shelf_now before now status (inr fault) =
    cut_by_fault shelf_before.files program fault.file shelf_before shelf_now before now fault.failed.rose fault.failed.named (ends_cut (refusal_outcome (ReadFault fault.file)) before now status fault.ends)
