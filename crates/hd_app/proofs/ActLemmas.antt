-- Acts that follow one another.
use Rattle.std.proofs.Common.{◌≡◌, ℕ, ◌∙◌, List, [], ◌∷◌, ◌++◌, Bool, false, Option, Some, None, refl, sym, ap, subst, inl, inr}
use Rattle.std.proofs.lemmas.List.{append_assoc}
use Rattle.std.specs.Option.{option_map}
use Rattle.hd_io.specs.Files.{FileList}
use Rattle.hd_io.specs.Causes.{Rose}
use Rattle.hd_io.specs.Acts.{Act, file, line, files_of, text_of, open_after, Cut, Outside, Adds, Wrote, WroteCut, NoFault, WriteFailed}
use Rattle.hd_io.proofs.Cuts.{cut_nothing}

files_joined : (first more : List Act) → files_of (first ++ more) ≡ files_of first ++ files_of more
files_joined [] more = refl
files_joined (file name bytes ∷ acts) more = ap (λ (files : FileList). (name, bytes) ∷ files) (files_joined acts more)
files_joined (line bytes ∷ acts) more = files_joined acts more

text_joined : (first more : List Act) → text_of (first ++ more) ≡ text_of first ++ text_of more
text_joined [] more = refl
text_joined (file name bytes ∷ acts) more = text_joined acts more
text_joined (line bytes ∷ acts) more = ap (λ (text : List ℕ). bytes ++ text) (text_joined acts more) ∙ sym (append_assoc bytes (text_of acts) (text_of more))

added_twice : {A : Type 0} (held : Option (List A)) (first more : List A)
    → option_map (λ (xs : List A). xs ++ more) (option_map (λ (xs : List A). xs ++ first) held) ≡ option_map (λ (xs : List A). xs ++ (first ++ more)) held
added_twice None first more = refl
added_twice {A} (Some xs) first more = ap (λ (ys : List A). Some ys) (append_assoc xs first more)

added : {A : Type 0} (before mid now : Option (List A)) (first more : List A)
    → mid ≡ option_map (λ (xs : List A). xs ++ first) before → now ≡ option_map (λ (xs : List A). xs ++ more) mid
    → now ≡ option_map (λ (xs : List A). xs ++ (first ++ more)) before
added {A} before mid now first more e f = f ∙ ap (λ (held : Option (List A)). option_map (λ (xs : List A). xs ++ more) held) e ∙ added_twice before first more

adds_joined : (files more_files : FileList) (text more_text : List ℕ) (before mid now : Outside)
    → Adds files text before mid → Adds more_files more_text mid now → Adds (files ++ more_files) (text ++ more_text) before now
adds_joined files more_files text more_text before mid now first more = record {
  files_added = added before.rack.files mid.rack.files now.rack.files files more_files first.files_added more.files_added;
  text_added = added before.sink.text mid.sink.text now.sink.text text more_text first.text_added more.text_added;
}

open_joined : (first more : List Act) (is_open : Bool) → open_after (first ++ more) is_open ≡ open_after more (open_after first is_open)
open_joined [] more is_open = refl
open_joined (file name bytes ∷ acts) more is_open = open_joined acts more false
open_joined (line bytes ∷ acts) more is_open = open_joined acts more is_open

-- what was written whole, and then whole
pub wrote_joined : (first more : List Act) (before mid now : Outside) → Wrote first before mid → Wrote more mid now → Wrote (first ++ more) before now
wrote_joined first more before mid now a b =
    let all = adds_joined (files_of first) (files_of more) (text_of first) (text_of more) before mid now a.added b.added in
    let F : FileList → Type 0 = λ files. Adds files (text_of first ++ text_of more) before now in
    let T : List ℕ → Type 0 = λ text. Adds (files_of (first ++ more)) text before now in
    record {
      added = subst T (sym (text_joined first more)) (subst F (sym (files_joined first more)) all);
      is_open = b.is_open ∙ ap (open_after more) a.is_open ∙ sym (open_joined first more before.rack.is_open);
    }

cut_after : (first more : List Act) (files : FileList) (text : List ℕ) → Cut more files text → Cut (first ++ more) (files_of first ++ files) (text_of first ++ text)
cut_after [] more files text cut = cut
cut_after (file name bytes ∷ acts) more files text cut = inr (inr (files_of acts ++ files, refl, cut_after acts more files text cut))
cut_after (line bytes ∷ acts) more files text cut = inr (inr (text_of acts ++ text, append_assoc bytes (text_of acts) text, cut_after acts more files text cut))

-- what was written whole, and then interrupted
pub cut_joined : (first more : List Act) (before mid now : Outside) → Wrote first before mid → WroteCut more mid now → WroteCut (first ++ more) before now
cut_joined first more before mid now a cut =
    (files_of first ++ cut.0, text_of first ++ cut.1, cut_after first more cut.0 cut.1 cut.2, adds_joined (files_of first) cut.0 (text_of first) cut.1 before mid now a.added cut.3)

nothing_of_more : (more : List Act) (files : FileList) (text : List ℕ) → (files ≡ []) × (text ≡ []) → Cut more files text
nothing_of_more more files text none =
    let F : FileList → Type 0 = λ f. Cut more f text in
    let T : List ℕ → Type 0 = λ t. Cut more [] t in
    subst F (sym none.0) (subst T (sym none.1) (cut_nothing more))

-- what is a beginning of acts is one where more of them follow
cut_of_more : (acts more : List Act) (files : FileList) (text : List ℕ) → Cut acts files text → Cut (acts ++ more) files text
cut_of_more [] more files text none = nothing_of_more more files text none
cut_of_more (file name bytes ∷ acts) more files text (inl none) = inl none
cut_of_more (file name bytes ∷ acts) more files text (inr (inl part)) = inr (inl part)
cut_of_more (file name bytes ∷ acts) more files text (inr (inr whole)) = inr (inr (whole.0, whole.1, cut_of_more acts more whole.0 text whole.2))
cut_of_more (line bytes ∷ acts) more files text (inl none) = inl none
cut_of_more (line bytes ∷ acts) more files text (inr (inl part)) = inr (inl part)
cut_of_more (line bytes ∷ acts) more files text (inr (inr whole)) = inr (inr (whole.0, whole.1, cut_of_more acts more files whole.0 whole.2))

pub wrote_cut_of_more : (acts more : List Act) (before now : Outside) → WroteCut acts before now → WroteCut (acts ++ more) before now
wrote_cut_of_more acts more before now cut = (cut.0, cut.1, cut_of_more acts more cut.0 cut.1 cut.2, cut.3)

pub faults_joined : (before mid now : Outside) → NoFault before mid → NoFault mid now → NoFault before now
faults_joined before mid now a b = record { rack = b.rack ∙ a.rack; sink = b.sink ∙ a.sink }

-- a fault after what was written whole
pub rose_after : (before mid now : Outside) → NoFault before mid
    → WriteFailed mid now
    → WriteFailed before now
rose_after before mid now none (inl rack) = inl (subst (λ (n : ℕ). Rose n now.rack.faults) none.rack rack)
rose_after before mid now none (inr sink) = inr (subst (λ (n : ℕ). Rose n now.sink.faults) none.sink sink)

cut_whole : (acts : List Act) → Cut acts (files_of acts) (text_of acts)
cut_whole [] = (refl, refl)
cut_whole (file name bytes ∷ acts) = inr (inr (files_of acts, refl, cut_whole acts))
cut_whole (line bytes ∷ acts) = inr (inr (text_of acts, refl, cut_whole acts))

-- acts that were made whole were made as far as any run comes
pub wrote_cut : (acts : List Act) (before now : Outside) → Wrote acts before now → WroteCut acts before now
wrote_cut acts before now whole = (files_of acts, text_of acts, cut_whole acts, whole.added)
