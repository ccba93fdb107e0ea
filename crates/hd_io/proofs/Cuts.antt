-- Acts that are interrupted, the first of them not begun or a line.
use Rattle.std.proofs.Common.{◌≡◌, ℕ, List, [], ◌∷◌, ◌++◌, take, Option, Some, None, refl, sym, ap, inl, inr, append-nil}
use Rattle.std.specs.Option.{option_map}
use Rattle.hd_io.specs.Rack.{RackState}
use Rattle.hd_io.specs.Sink.{SinkState}
use Rattle.hd_io.specs.Writing.{CutLine}
use Rattle.hd_io.specs.Acts.{Act, file, line, Cut, Outside, Adds, WroteCut}

-- nothing was added
pub nothing_added : {A : Type 0} (held : Option (List A)) → held ≡ option_map (λ (xs : List A). xs ++ []) held
nothing_added None = refl
nothing_added {A} (Some xs) = ap (λ (ys : List A). Some ys) (sym (append-nil xs))

-- nothing is a beginning of any acts
pub cut_nothing : (acts : List Act) → Cut acts [] []
cut_nothing [] = (refl, refl)
cut_nothing (file name bytes ∷ acts) = inl (refl, refl)
cut_nothing (line bytes ∷ acts) = inl (refl, refl)

-- an outside that stays as it is has no file and no text more
pub adds_nothing : (o : Outside) → Adds [] [] o o
adds_nothing o = record { files_added = nothing_added o.rack.files; text_added = nothing_added o.sink.text }

-- and acts were interrupted before the first of them
pub none_written : (acts : List Act) (o : Outside) → WroteCut acts o o
none_written acts o = ([], [], cut_nothing acts, adds_nothing o)

-- a line alone was cut short
pub only_line_cut : (text : List ℕ) (rack : RackState) (before now : SinkState) → CutLine text before.text now.text
    → WroteCut (line text ∷ []) (record { rack = rack; sink = before }) (record { rack = rack; sink = now })
only_line_cut text rack before now cut =
    ([], take cut.0 text, inr (inl (cut.0, cut.1, refl, refl)), record { files_added = nothing_added rack.files; text_added = cut.2 })
