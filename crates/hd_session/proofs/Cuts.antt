-- A file and the line after it that are cut short.
use Rattle.std.proofs.Common.{◌≡◌, ℕ, ◌∙◌, List, [], ◌∷◌, take, refl, subst, inl, inr}
use Rattle.hd_io.specs.Acts.{Outside, file, line, WroteCut}
use Rattle.hd_io.specs.Rack.{RackState}
use Rattle.hd_io.specs.Sink.{SinkState}
use Rattle.hd_io.specs.Writing.{with_whole, CutFile, CutLine}
use Rattle.hd_io.proofs.Cuts.{nothing_added}

-- a file was cut short, and the line after it was not begun
pub file_cut : (name bytes text : List ℕ) (before now : RackState) (sink : SinkState) → CutFile name bytes before.files now.files
    → WroteCut (file name bytes ∷ line text ∷ []) (record { rack = before; sink = sink }) (record { rack = now; sink = sink })
file_cut name bytes text before now sink (inl same) =
    ([], [], inl (refl, refl), record { files_added = same ∙ nothing_added before.files; text_added = nothing_added sink.text })
file_cut name bytes text before now sink (inr cut) =
    ((name, take cut.0 bytes) ∷ [], [], inr (inl (cut.0, cut.1, refl, refl)), record { files_added = cut.2; text_added = nothing_added sink.text })

-- a file was written whole, and the line after it was cut short
pub line_cut : (name bytes text : List ℕ) (before now : RackState) (sink sink_now : SinkState) → now.files ≡ with_whole name bytes before.files → CutLine text sink.text sink_now.text
    → WroteCut (file name bytes ∷ line text ∷ []) (record { rack = before; sink = sink }) (record { rack = now; sink = sink_now })
line_cut name bytes text before now sink sink_now whole cut =
    ((name, bytes) ∷ [], take cut.0 text, inr (inr ([], refl, inr (inl (cut.0, cut.1, refl, refl)))), record { files_added = whole; text_added = cut.2 })

-- and so of equal bytes
pub whole_cut : (name bytes text whole_bytes whole_text : List ℕ) (before now : Outside) → bytes ≡ whole_bytes → text ≡ whole_text
    → WroteCut (file name bytes ∷ line text ∷ []) before now → WroteCut (file name whole_bytes ∷ line whole_text ∷ []) before now
whole_cut name bytes text whole_bytes whole_text before now same_bytes same_text cut =
    let P : List ℕ → Type 0 = λ b. WroteCut (file name b ∷ line whole_text ∷ []) before now in
    let Q : List ℕ → Type 0 = λ t. WroteCut (file name bytes ∷ line t ∷ []) before now in
    subst P same_bytes (subst Q same_text cut)
