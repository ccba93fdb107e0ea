use Rattle.std.proofs.Common.{◌≡◌, ℕ, List, length, true, ◌==◌, Ok, refl, arith}
use Rattle.std.proofs.lemmas.Bool.Decides.{nat_tests}
use Rattle.std.proofs.lemmas.Str.{utf8_valid_len-IsUtf8}
use Rattle.std.specs.Str.Lossy.{utf8_valid_len}
use Rattle.hd_usda.specs.Layer.{valid_text}
use Rattle.hd_usda.proofs.layer.valid_text.Goals as goal

passes : (bs : List ℕ) → utf8_valid_len bs ≡ length bs → valid_text bs ≡ Ok bs
unfolding valid_text
passes bs e = let t : (utf8_valid_len bs == length bs) ≡ true = grind (arith, nat_tests, e) in rw t refl

pub returns-in-Ok : goal.returns-in-Ok
returns-in-Ok c = passes c.args.bytes.now (utf8_valid_len-IsUtf8 c.args.bytes.now c.in-Ok.ensures.cases.1)
