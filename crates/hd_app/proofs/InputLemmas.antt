-- How the files of a command are read, one after the other.
use Rattle.std.proofs.Common.{◌≡◌, ℕ, zero, suc, ◌+◌, ◌<◌, ◌≤◌, ◌∙◌, true, List, [], ◌∷◌, ◌++◌, length, take, drop, get_or, Option, Some, None, Ok, Err, refl, sym, ap, subst, inl, inr, false, length-append, arith}
use Rattle.std.specs.Prelude.{Result, All, Contains, IfSome, IsTrue, map, max, IsOk, is_ok, slice_get, nat_lt}
use Rattle.std.proofs.lemmas.Bool.Decides.{nat_tests}
use Rattle.std.proofs.lemmas.List.{append_assoc, take-append-le, get_or_append_left, get_or-map, length-map}
use Rattle.std.proofs.lemmas.List.Elements.{All-nil, All-cons, All-append, All-head, All-rest, Contains-get_or, Contains-push, Contains-append_left}
use Rattle.std.proofs.lemmas.Option.{slice_get_within, slice_get-get_or, get_or_from_slice_get}
use Rattle.std.proofs.Math.Seq.{drop-cons, take-suc, take-append_seam, get_or-append_seam}
use Rattle.hd_layer.specs.declared.limits.Which.{Which}
use Rattle.hd_layer.specs.declared.limits.Which.TheVariants.{Layers, Bytes}
use Rattle.hd_layer.specs.declared.spec.LayerSpec.{LayerSpec}
use Rattle.hd_layer.specs.Limits.{limit_of}
use Rattle.hd_layer.specs.WellFormed.{is_layer}
use Rattle.hd_io.specs.Causes.{Rose}
use Rattle.hd_io.specs.Files.{FileMap}
use Rattle.hd_session.specs.States.{opening_state}
use Rattle.hd_app.specs.declared.status.Status.{Status}
use Rattle.hd_app.specs.declared.status.Status.TheVariants.{Done, Usage, Layer, Script, Limit, ReadFault, WriteFault, NoMemory}
use Rattle.hd_app.specs.declared.status.Place.{Place}
use Rattle.hd_app.specs.declared.status.Place.TheVariants.{Words, File, Line}
use Rattle.hd_app.specs.Commands.{draw, step, HasFewLayers}
use Rattle.hd_app.specs.Outcomes.{outcome_of, draw_if_read, layer_in, layers_in, with_layer, script_in, step_outcome, step_if_read, byte_limit}
use Rattle.hd_app.specs.Refusing.{refusal_outcome}
use Rattle.hd_io.specs.Shelf.{ShelfState}
use Rattle.hd_app.specs.Runs.{TookTooMuch, PassesLimit, SpellLayers, IsReached}
use Rattle.hd_app.specs.inner.Refusals.{FailedAt, RefusesLayer, RefusesLayers, RefusesScript, RefusesFiles}
use Rattle.hd_app.specs.Scripts.{lines_of, outcome_of_lines}

-- layers that were read, and what is to be read after them
abbrev pub after : List LayerSpec → Result (List LayerSpec) Status → Result (List LayerSpec) Status
after layers (Ok more) = Ok (layers ++ more)
after layers (Err status) = Err status

pub after_none : (read : Result (List LayerSpec) Status) → read ≡ after [] read
after_none (Ok more) = refl
after_none (Err status) = refl

after_one_more : (layers : List LayerSpec) (layer : LayerSpec) (rest : Result (List LayerSpec) Status)
    → after layers (with_layer (Ok layer) rest) ≡ after (layers ++ layer ∷ []) rest
after_one_more layers layer (Ok more) = ap (λ (all : List LayerSpec). Ok all) (sym (append_assoc layers (layer ∷ []) more))
after_one_more layers layer (Err status) = refl

-- one more layer was read
pub one_more : (files : FileMap) (names : List (List ℕ)) (i : ℕ) (name : List ℕ) (layers : List LayerSpec) (layer : LayerSpec) → i < length names → name ≡ get_or names i []
    → layer_in files name ≡ Ok layer → layers_in files names ≡ after layers (layers_in files (drop i names))
    → layers_in files names ≡ after (layers ++ layer ∷ []) (layers_in files (drop (suc i) names))
one_more files names i name layers layer lt is read so_far =
    let next : drop i names ≡ name ∷ drop (suc i) names = drop-cons names i [] lt ∙ ap (λ (n : List ℕ). n ∷ drop (suc i) names) (sym is) in
    so_far ∙ ap (λ (ns : List (List ℕ)). after layers (layers_in files ns)) next
    ∙ ap (λ (r : Result LayerSpec Status). after layers (with_layer r (layers_in files (drop (suc i) names)))) read
    ∙ after_one_more layers layer (layers_in files (drop (suc i) names))

spells : (files : FileMap) (name : List ℕ) (layer : LayerSpec) → layer_in files name ≡ Ok layer → IsOk (layer_in files name)
spells files name layer read = ap (λ (r : Result LayerSpec Status). is_ok r) read

-- and it spells a layer, as those before it
pub one_more_spells : (files : FileMap) (names : List (List ℕ)) (i : ℕ) (name : List ℕ) (layer : LayerSpec) → i < length names → name ≡ get_or names i []
    → layer_in files name ≡ Ok layer → SpellLayers files (take i names) → SpellLayers files (take (suc i) names)
one_more_spells files names i name layer lt is read so_far =
    let P : List ℕ → Type 0 = λ n. IsOk (layer_in files n) in
    let next : take (suc i) names ≡ take i names ++ name ∷ [] = take-suc names i [] lt ∙ ap (λ (n : List ℕ). take i names ++ n ∷ []) (sym is) in
    subst (λ (ns : List (List ℕ)). All P ns) (sym next)
    (All-append P (take i names) (name ∷ []) so_far (All-cons P name [] (spells files name layer read) (All-nil P)))

-- the names of layers that were all read
spell_if_read : (files : FileMap) (name : List ℕ) (names : List (List ℕ)) (layers : List LayerSpec) (first : Result LayerSpec Status) (rest : Result (List LayerSpec) Status)
    → layer_in files name ≡ first → layers_in files names ≡ rest → with_layer first rest ≡ Ok layers
    → ((all : List LayerSpec) → layers_in files names ≡ Ok all → SpellLayers files names) → SpellLayers files (name ∷ names)
spell_if_read files name names layers (Ok layer) (Ok more) is are all others =
    All-cons (λ (n : List ℕ). IsOk (layer_in files n)) name names (spells files name layer is) (others more are)
spell_if_read files name names layers (Ok layer) (Err status) is are all others = cc
spell_if_read files name names layers (Err status) rest is are all others = cc

pub all_spell : (files : FileMap) (names : List (List ℕ)) (layers : List LayerSpec) → layers_in files names ≡ Ok layers → SpellLayers files names
all_spell files [] layers read = All-nil (λ (n : List ℕ). IsOk (layer_in files n))
all_spell files (name ∷ names) layers read =
    spell_if_read files name names layers (layer_in files name) (layers_in files names) refl refl read (λ all is. all_spell files names all is)

first_refused : (files : FileMap) (names : List (List ℕ)) (status : Status) (layer : Result LayerSpec Status) → IsOk layer → layers_in files names ≡ Err status → with_layer layer (layers_in files names) ≡ Err status
first_refused files names status (Ok layer) ok are = ap (with_layer (Ok layer)) are
first_refused files names status (Err other) ok are = cc

slice_get_after : (first : List ℕ) (names : List (List ℕ)) (place : ℕ) (name : List ℕ) → slice_get (first ∷ names) (suc place) ≡ Some name → slice_get names place ≡ Some name
slice_get_after first names place name named =
    let lt = slice_get_within (first ∷ names) (suc place) name named in
    slice_get-get_or names place [] (omega (arith, lt)) ∙ ap (λ (n : List ℕ). Some n) (get_or_from_slice_get (first ∷ names) (suc place) name [] named)

-- the first layer that is refused decides
refused_at : (files : FileMap) (names : List (List ℕ)) (place : ℕ) (name : List ℕ) (status : Status) → slice_get names place ≡ Some name
    → SpellLayers files (take place names) → layer_in files name ≡ Err status → layers_in files names ≡ Err status
refused_at files [] place name status named spelled is = let lt = slice_get_within [] place name named in absurd (omega arith)
refused_at files (first ∷ names) zero name status named spelled is =
    let same : first ≡ name = get_or_from_slice_get (first ∷ names) 0 name [] named in
    ap (λ (n : List ℕ). with_layer (layer_in files n) (layers_in files names)) same ∙ ap (λ (r : Result LayerSpec Status). with_layer r (layers_in files names)) is
refused_at files (first ∷ names) (suc place) name status named spelled is =
    let P : List ℕ → Type 0 = λ n. IsOk (layer_in files n) in
    first_refused files names status (layer_in files first) (All-head P first (take place names) spelled)
    (refused_at files names place name status (slice_get_after first names place name named) (All-rest P first (take place names) (first ∷ take place names) refl spelled) is)

-- the name of an item, among the names of all
pub named_at : {A : Type 0} (f : A → List ℕ) (items : List A) (i : ℕ) (x : A) (name : List ℕ) → i < length items → x ≡ get_or items i x → name ≡ f x
    → (i < length (map f items)) × (name ≡ get_or (map f items) i [])
named_at f items i x name lt at is = (omega (arith, lt, length-map items f), is ∙ ap f at ∙ sym (get_or-map f items i x [] lt))

-- one more layer was read, where the files are told
pub told_one_more : (told between : Option FileMap) (names : List (List ℕ)) (i : ℕ) (name : List ℕ) (layers : List LayerSpec) (layer : LayerSpec)
    → between ≡ told → (i < length names) × (name ≡ get_or names i []) → IfSome between (λ files. layer_in files name ≡ Ok layer)
    → IfSome told (λ files. layers_in files names ≡ after layers (layers_in files (drop i names)))
    → IfSome told (λ files. layers_in files names ≡ after (layers ++ layer ∷ []) (layers_in files (drop (i + 1) names)))
told_one_more None between names i name layers layer same at read so_far = tt
told_one_more (Some files) between names i name layers layer same at read so_far =
    let now : layer_in files name ≡ Ok layer = subst (λ (f : Option FileMap). IfSome f (λ m. layer_in m name ≡ Ok layer)) same read in
    let next : suc i ≡ i + 1 = omega arith in
    subst (λ (k : ℕ). layers_in files names ≡ after (layers ++ layer ∷ []) (layers_in files (drop k names))) next
    (one_more files names i name layers layer at.0 at.1 now so_far)

pub told_one_more_spells : (told between : Option FileMap) (names : List (List ℕ)) (i : ℕ) (name : List ℕ) (layer : LayerSpec)
    → between ≡ told → (i < length names) × (name ≡ get_or names i []) → IfSome between (λ files. layer_in files name ≡ Ok layer)
    → IfSome told (λ files. SpellLayers files (take i names)) → IfSome told (λ files. SpellLayers files (take (i + 1) names))
told_one_more_spells None between names i name layer same at read so_far = tt
told_one_more_spells (Some files) between names i name layer same at read so_far =
    let now : layer_in files name ≡ Ok layer = subst (λ (f : Option FileMap). IfSome f (λ m. layer_in m name ≡ Ok layer)) same read in
    let next : suc i ≡ i + 1 = omega arith in
    subst (λ (k : ℕ). All (λ (n : List ℕ). IsOk (layer_in files n)) (take k names)) next
    (one_more_spells files names i name layer at.0 at.1 now so_far)

pub all_formed : (layers all : List LayerSpec) (layer : LayerSpec) → all ≡ layers ++ layer ∷ [] → IsTrue (is_layer layer) → All (λ (l : LayerSpec). IsTrue (is_layer l)) layers
    → All (λ (l : LayerSpec). IsTrue (is_layer l)) all
all_formed layers all layer is formed so_far =
    let P : LayerSpec → Type 0 = λ l. IsTrue (is_layer l) in
    subst (λ (ls : List LayerSpec). All P ls) (sym is) (All-append P layers (layer ∷ []) so_far (All-cons P layer [] formed (All-nil P)))

pub within_joined : (first between now most : ℕ) → now ≤ max between most → between ≤ max first most → now ≤ max first most
within_joined first between now most later before = omega (arith, later, before)

refused_told : (name : List ℕ) (status : Status) (told between : Option FileMap) → between ≡ told → IfSome between (λ files. layer_in files name ≡ Err status)
    → IfSome told (λ files. layer_in files name ≡ Err status)
refused_told name status told between same read = subst (λ (f : Option FileMap). IfSome f (λ m. layer_in m name ≡ Err status)) same read

-- a layer is refused so from the beginning on, where the shelf has not failed before
refused_from : (name : List ℕ) (before between now : ShelfState) (status : Status) → between.files ≡ before.files → between.faults ≡ before.faults
    → RefusesLayer name between now status → RefusesLayer name before now status
refused_from name before between now (ReadFault file) files faults why =
    (why.0, record { rose = subst (λ (n : ℕ). Rose n now.faults) faults why.1.rose; named = why.1.named })
refused_from name before between now (Layer file line cause) files faults why = (why.0 ∙ faults, why.1, why.2, refused_told name (Layer file line cause) before.files between.files files why.3)
refused_from name before between now (Limit place which count) files faults why = (why.0 ∙ faults, why.1, refused_told name (Limit place which count) before.files between.files files why.2)
refused_from name before between now NoMemory files faults why = why ∙ faults
refused_from name before between now (Script line cause) files faults why = why
refused_from name before between now Done files faults why = why
refused_from name before between now Usage files faults why = why
refused_from name before between now WriteFault files faults why = why

-- one of the layers was refused
pub refused_among : (names : List (List ℕ)) (place : ℕ) (name : List ℕ) (before between now : ShelfState) (status : Status) → (place < length names) × (name ≡ get_or names place [])
    → between.files ≡ before.files → between.faults ≡ before.faults → IfSome before.files (λ files. SpellLayers files (take place names))
    → RefusesLayer name between now status → RefusesLayers names before now status
refused_among names place name before between now status at files faults spelled why = inl (record {
  place = place;
  name = name;
  named = slice_get-get_or names place [] at.0 ∙ ap (λ (n : List ℕ). Some n) (sym at.1);
  before_it = spelled;
  refusal = refused_from name before between now status files faults why;
})

-- one of these names
is_named : (names : List (List ℕ)) (place : ℕ) (name file : List ℕ) → slice_get names place ≡ Some name → file ≡ name → Contains names file
is_named names place name file named is =
    let at : get_or names place [] ≡ name = get_or_from_slice_get names place name [] named in
    subst (λ (f : List ℕ). Contains names f) (at ∙ sym is) (Contains-get_or names place [] (slice_get_within names place name named))

failed_named : (name file : List ℕ) (before now : ShelfState) → file ≡ name → FailedAt name before now → FailedAt file before now
failed_named name file before now is failed = subst (λ (f : List ℕ). FailedAt f before now) (sym is) failed

none_before : (told : Option FileMap) (names : List (List ℕ)) → IfSome told (λ files. SpellLayers files (take 0 names))
none_before None names = tt
none_before (Some files) names = All-nil (λ (n : List ℕ). IsOk (layer_in files n))

-- a command that draws has one layer
pub draws_one : (name out : List ℕ) → HasFewLayers (draw name out)
draws_one name out = omega arith

reached_first : (name out : List ℕ) (told : Option FileMap) (file : List ℕ) → file ≡ name → IsReached (draw name out) told file
reached_first name out told file is = record {
  few = draws_one name out;
  place = 0;
  named = ap (λ (n : List ℕ). Some n) (sym is);
  before = none_before told (name ∷ []);
}

pub named_first : (name file : List ℕ) → file ≡ name → Contains (name ∷ []) file
named_first name file is = is_named (name ∷ []) 0 name file refl is

told_refused : (name out : List ℕ) (refusal : Status) (told : Option FileMap) → IfSome told (λ files. layer_in files name ≡ Err refusal)
    → IfSome told (λ files. outcome_of files (Some (draw name out)) [] ≡ refusal_outcome refusal)
told_refused name out refusal None read = tt
told_refused name out refusal (Some files) read = ap (draw_if_read name out) read

-- the count of the bytes that a file may have is that of their limit
is_byte_limit : (which : Which) (count : ℕ) → which ≡ Bytes → count ≡ byte_limit → count ≡ limit_of which
is_byte_limit which count bytes is = is ∙ sym (ap limit_of bytes)

-- a command of one layer
pub layer_refuses : (name out : List ℕ) (before now : ShelfState) (status : Status) → RefusesLayer name before now status → RefusesFiles (draw name out) before now status
layer_refuses name out before now (ReadFault file) why = (reached_first name out before.files file why.0, failed_named name file before now why.0 why.1)
layer_refuses name out before now (Layer file line cause) why = record {
  faults = why.0;
  answer = ((draws_one name out, named_first name file why.1), why.2);
  told = told_refused name out (Layer file line cause) before.files why.3;
}
layer_refuses name out before now (Limit (File file) which count) why = record {
  faults = why.0;
  answer = (draws_one name out, named_first name file why.1.0, is_byte_limit which count why.1.1 why.1.2, inl (why.1.1, why.1.3));
  told = told_refused name out (Limit (File file) which count) before.files why.2;
}
layer_refuses name out before now (Limit (Line file line) which count) why = record {
  faults = why.0;
  answer = (draws_one name out, named_first name file why.1.0, why.1.1, why.1.2);
  told = told_refused name out (Limit (Line file line) which count) before.files why.2;
}
layer_refuses name out before now (Limit Words which count) why = absurd why.1
layer_refuses name out before now NoMemory why = why
layer_refuses name out before now (Script line cause) why = absurd why
layer_refuses name out before now Done why = absurd why
layer_refuses name out before now Usage why = absurd why
layer_refuses name out before now WriteFault why = absurd why

-- eight layers at most
few_of : (layers : List (List ℕ)) → length layers ≤ 8 → nat_lt (limit_of Layers) (length layers) ≡ false
few_of layers few = grind (arith, nat_tests)

step_told : (files : FileMap) (layers : List (List ℕ)) (script : List ℕ) → length layers ≤ 8
    → step_outcome files layers script [] ≡ step_if_read script [] (layers_in files layers) (script_in files script)
step_told files layers script few = rw (few_of layers few) refl

-- a layer of several was refused
told_layers : (layers : List (List ℕ)) (script : List ℕ) (place : ℕ) (name : List ℕ) (refusal : Status) (told : Option FileMap) → length layers ≤ 8
    → slice_get layers place ≡ Some name → IfSome told (λ files. SpellLayers files (take place layers)) → IfSome told (λ files. layer_in files name ≡ Err refusal)
    → IfSome told (λ files. outcome_of files (Some (step layers script)) [] ≡ refusal_outcome refusal)
told_layers layers script place name refusal None few named spelled is = tt
told_layers layers script place name refusal (Some files) few named spelled is =
    step_told files layers script few
    ∙ ap (λ (r : Result (List LayerSpec) Status). step_if_read script [] r (script_in files script)) (refused_at files layers place name refusal named spelled is)

told_before : (layers : List (List ℕ)) (script : List ℕ) (place : ℕ) (told : Option FileMap) → place ≤ length layers
    → IfSome told (λ files. SpellLayers files (take place layers)) → IfSome told (λ files. SpellLayers files (take place (layers ++ script ∷ [])))
told_before layers script place None within spelled = tt
told_before layers script place (Some files) within spelled =
    subst (λ (ns : List (List ℕ)). All (λ (n : List ℕ). IsOk (layer_in files n)) ns) (sym (take-append-le place layers (script ∷ []) within)) spelled

slice_get_joined : (layers more : List (List ℕ)) (place : ℕ) (name : List ℕ) → slice_get layers place ≡ Some name → slice_get (layers ++ more) place ≡ Some name
slice_get_joined layers more place name named =
    let lt = slice_get_within layers place name named in
    slice_get-get_or (layers ++ more) place [] (omega (arith, lt, length-append layers more))
    ∙ ap (λ (n : List ℕ). Some n) (get_or_append_left layers more [] place lt ∙ get_or_from_slice_get layers place name [] named)

reached_layer : (layers : List (List ℕ)) (script : List ℕ) (place : ℕ) (name : List ℕ) (told : Option FileMap) (file : List ℕ) → length layers ≤ 8
    → slice_get layers place ≡ Some name → IfSome told (λ files. SpellLayers files (take place layers)) → file ≡ name → IsReached (step layers script) told file
reached_layer layers script place name told file few named spelled is = record {
  few = few;
  place = place;
  named = slice_get_joined layers (script ∷ []) place name named ∙ ap (λ (n : List ℕ). Some n) (sym is);
  before = told_before layers script place told (omega (arith, slice_get_within layers place name named)) spelled;
}

-- the layers of a command, of which one was refused
one_layer_refuses : (layers : List (List ℕ)) (script : List ℕ) (before now : ShelfState) (place : ℕ) (name : List ℕ) (status : Status) → length layers ≤ 8
    → slice_get layers place ≡ Some name → IfSome before.files (λ files. SpellLayers files (take place layers)) → RefusesLayer name before now status
    → RefusesFiles (step layers script) before now status
one_layer_refuses layers script before now place name (ReadFault file) few named spelled why =
    (reached_layer layers script place name before.files file few named spelled why.0, failed_named name file before now why.0 why.1)
one_layer_refuses layers script before now place name (Layer file line cause) few named spelled why = record {
  faults = why.0;
  answer = ((few, is_named layers place name file named why.1), why.2);
  told = told_layers layers script place name (Layer file line cause) before.files few named spelled why.3;
}
one_layer_refuses layers script before now place name (Limit (File file) which count) few named spelled why = record {
  faults = why.0;
  answer = (few, Contains-append_left layers (script ∷ []) file (is_named layers place name file named why.1.0), is_byte_limit which count why.1.1 why.1.2, inl (why.1.1, why.1.3));
  told = told_layers layers script place name (Limit (File file) which count) before.files few named spelled why.2;
}
one_layer_refuses layers script before now place name (Limit (Line file line) which count) few named spelled why = record {
  faults = why.0;
  answer = (few, Contains-append_left layers (script ∷ []) file (is_named layers place name file named why.1.0), why.1.1, why.1.2);
  told = told_layers layers script place name (Limit (Line file line) which count) before.files few named spelled why.2;
}
one_layer_refuses layers script before now place name (Limit Words which count) few named spelled why = absurd why.1
one_layer_refuses layers script before now place name NoMemory few named spelled why = why
one_layer_refuses layers script before now place name (Script line cause) few named spelled why = absurd why
one_layer_refuses layers script before now place name Done few named spelled why = absurd why
one_layer_refuses layers script before now place name Usage few named spelled why = absurd why
one_layer_refuses layers script before now place name WriteFault few named spelled why = absurd why

pub layers_refuse : (layers : List (List ℕ)) (script : List ℕ) (before now : ShelfState) (status : Status) → length layers ≤ 8
    → RefusesLayers layers before now status → RefusesFiles (step layers script) before now status
layers_refuse layers script before now status few (inl one) = one_layer_refuses layers script before now one.place one.name status few one.named one.before_it one.refusal
layers_refuse layers script before now status few (inr memory) = subst (λ (s : Status). RefusesFiles (step layers script) before now s) (sym memory.0) memory.1

-- more layers than eight
told_many : (layers : List (List ℕ)) (script : List ℕ) (told : Option FileMap) → 8 < length layers
    → IfSome told (λ files. outcome_of files (Some (step layers script)) [] ≡ refusal_outcome (Limit Words Layers (limit_of Layers)))
told_many layers script None many = tt
told_many layers script (Some files) many =
    let yes : nat_lt (limit_of Layers) (length layers) ≡ true = grind (arith, nat_tests) in
    rw yes refl

pub many_refuse : (layers : List (List ℕ)) (script : List ℕ) (shelf : ShelfState) → 8 < length layers → RefusesFiles (step layers script) shelf shelf (Limit Words Layers (limit_of Layers))
many_refuse layers script shelf many = record {
  faults = refl;
  answer = (refl, refl, many);
  told = told_many layers script shelf.files many;
}

told_script : (layers : List (List ℕ)) (script : List ℕ) (read : List LayerSpec) (refusal : Status) (told : Option FileMap) → length layers ≤ 8
    → IfSome told (λ files. layers_in files layers ≡ Ok read) → IfSome told (λ files. script_in files script ≡ Err refusal)
    → IfSome told (λ files. outcome_of files (Some (step layers script)) [] ≡ refusal_outcome refusal)
told_script layers script read refusal None few are is = tt
told_script layers script read refusal (Some files) few are is =
    step_told files layers script few
    ∙ ap (λ (r : Result (List LayerSpec) Status). step_if_read script [] r (script_in files script)) are
    ∙ ap (step_if_read script [] (Ok read)) is

all_before : (layers : List (List ℕ)) (script : List ℕ) (read : List LayerSpec) (told : Option FileMap) → IfSome told (λ files. layers_in files layers ≡ Ok read)
    → IfSome told (λ files. SpellLayers files (take (length layers) (layers ++ script ∷ [])))
all_before layers script read None are = tt
all_before layers script read (Some files) are =
    subst (λ (ns : List (List ℕ)). All (λ (n : List ℕ). IsOk (layer_in files n)) ns) (sym (take-append_seam layers (script ∷ []))) (all_spell files layers read are)

script_named : (layers : List (List ℕ)) (script : List ℕ) → slice_get (layers ++ script ∷ []) (length layers) ≡ Some script
script_named layers script =
    slice_get-get_or (layers ++ script ∷ []) (length layers) [] (omega (arith, length-append layers (script ∷ [])))
    ∙ ap (λ (n : List ℕ). Some n) (get_or-append_seam layers script [] [])

script_limit : (layers : List (List ℕ)) (script : List ℕ) (now : ShelfState) (place : Place) (which : Which) (count : ℕ) → length layers ≤ 8
    → place ≡ File script → which ≡ Bytes → count ≡ byte_limit → TookTooMuch now script → PassesLimit (step layers script) now place which count
script_limit layers script now place which count few is bytes limit taken =
    subst (λ (p : Place). PassesLimit (step layers script) now p which count) (sym is) (few, Contains-push layers script, is_byte_limit which count bytes limit, inl (bytes, taken))

-- the script after layers that were read: the shelf as it was between them counts as before
pub script_refuses : (layers : List (List ℕ)) (script : List ℕ) (read : List LayerSpec) (before between now : ShelfState) (status : Status) → length layers ≤ 8
    → IfSome before.files (λ files. layers_in files layers ≡ Ok read) → between.files ≡ before.files → between.faults ≡ before.faults
    → RefusesScript script between now status → RefusesFiles (step layers script) before now status
script_refuses layers script read before between now (ReadFault file) few are files faults why =
    let name : file ≡ script = why.0 in (
      record {
        few = few;
        place = length layers;
        named = script_named layers script ∙ ap (λ (n : List ℕ). Some n) (sym name);
        before = all_before layers script read before.files are;
      },
      record {
        rose = subst (λ (n : ℕ). Rose n now.faults) faults why.1.rose;
        named = why.1.named ∙ ap (λ (n : List ℕ). Some n) (sym name);
      },
    )
script_refuses layers script read before between now (Limit place which count) few are files faults why = record {
  faults = why.0 ∙ faults;
  answer = script_limit layers script now place which count few why.1 why.2 why.3 why.4;
  told = told_script layers script read (Limit place which count) before.files few are
      (subst (λ (f : Option FileMap). IfSome f (λ m. script_in m script ≡ Err (Limit place which count))) files why.5);
}
script_refuses layers script read before between now NoMemory few are files faults why = why ∙ faults
script_refuses layers script read before between now (Layer file line cause) few are files faults why = absurd why
script_refuses layers script read before between now (Script line cause) few are files faults why = absurd why
script_refuses layers script read before between now Done few are files faults why = absurd why
script_refuses layers script read before between now Usage few are files faults why = absurd why
script_refuses layers script read before between now WriteFault few are files faults why = absurd why

-- all was read
pub all_told : (layers : List (List ℕ)) (script : List ℕ) (read : List LayerSpec) (bytes : List ℕ) (told between : Option FileMap) → length layers ≤ 8
    → IfSome told (λ files. layers_in files layers ≡ Ok read) → between ≡ told → IfSome between (λ files. script_in files script ≡ Ok bytes)
    → IfSome told (λ files. step_outcome files layers script [] ≡ outcome_of_lines script 1 (opening_state read) [] (lines_of bytes))
all_told layers script read bytes None between few are same is = tt
all_told layers script read bytes (Some files) between few are same is =
    let script_is : script_in files script ≡ Ok bytes = subst (λ (f : Option FileMap). IfSome f (λ m. script_in m script ≡ Ok bytes)) same is in
    step_told files layers script few
    ∙ ap (λ (r : Result (List LayerSpec) Status). step_if_read script [] r (script_in files script)) are
    ∙ ap (step_if_read script [] (Ok read)) script_is
