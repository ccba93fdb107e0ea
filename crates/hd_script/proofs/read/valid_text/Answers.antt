use Rattle.std.proofs.Common.{◌≡◌, ℕ, List, Ok, Err, refl, sym, ap, ◌∙◌}
use Rattle.std.proofs.lemmas.Bool.{false_from_ne_true}
use Rattle.std.proofs.lemmas.Str.{is_utf8-from_IsUtf8, IsUtf8-from_is_utf8}
use Rattle.std.specs.Str.{is_utf8, IsUtf8}
use Rattle.hd_script.specs.declared.fault.LineFault.TheVariants.{Syntax}
use Rattle.hd_script.specs.Commands.{valid_text}
use Rattle.hd_script.proofs.read.valid_text.Goals as goal

passes : (text : List ℕ) → IsUtf8 text → valid_text text ≡ Ok text
unfolding valid_text
passes text utf8 = rw (is_utf8-from_IsUtf8 text utf8) refl

fails : (text : List ℕ) → (IsUtf8 text → ⊥) → valid_text text ≡ Err Syntax
unfolding valid_text
fails text no_utf8 = rw (false_from_ne_true (is_utf8 text) (λ e. no_utf8 (IsUtf8-from_is_utf8 text e))) refl

pub returns-in-Ok : goal.returns-in-Ok
returns-in-Ok c = passes c.args.text.now c.in-Ok.ensures.cases.1 ∙ ap (λ (t : List ℕ). Ok t) (sym c.in-Ok.ensures.cases.0)

pub returns-in-Err : goal.returns-in-Err
returns-in-Err c = fails c.args.text.now c.in-Err.ensures.cases.0
