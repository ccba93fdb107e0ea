-- The values of used properties take tokens.
use Rattle.std.proofs.Common.{◌≡◌, ℕ, ℤ, List, [], ◌∷◌, length, nat_le, Ok, Bool, true, false, ◌&&◌, codes, refl}
use Rattle.hd_num.specs.declared.vector.Vec3.{Vec3}
use Rattle.hd_lexer.specs.declared.lexer.Kind.{Kind}
use Rattle.hd_lexer.specs.declared.lexer.Kind.TheVariants.{Number, Text, PathText, OpenRound, CloseRound, OpenSquare, CloseSquare, Comma, End}
use Rattle.hd_usda.specs.declared.used.numbers.NumberRule.{NumberRule}
use Rattle.hd_usda.specs.declared.used.numbers.NumberRule.TheVariants.{Any, Turn, Zero, One}
use Rattle.hd_tokens.specs.declared.properties.AttributeKind.{AttributeKind}
use Rattle.hd_tokens.specs.declared.properties.AttributeKind.TheVariants as role
use Rattle.hd_layer.specs.declared.limits.Which.TheVariants.{Elements}
use Rattle.hd_layer.specs.Limits.{limit_of}
use Rattle.hd_usda.specs.reading.Cursor.{◌>>=◌, Form, is, is_word, same_kind, count, text, line_of, take}
use Rattle.hd_tokens.specs.Names.{is_any}
use Rattle.hd_tokens.specs.Properties.{is_op_entry}
use Rattle.hd_usda.specs.used.Numbers.{need, number, triple, row}
use Rattle.hd_usda.specs.used.Elements.{Reads, one_more, next_element, list_of}
use Rattle.hd_usda.specs.used.Targets.{path_in, target, one_target, in_list, targets}
use Rattle.hd_usda.specs.used.Values.{numbers, triples, op_entry, op_entries, one_of, rows, value_of, used_value}
use Rattle.hd_usda.proofs.Heading.{one_fewer}
use Rattle.hd_usda.proofs.Takes.{Below, After, PastTakes, Takes, PastKeeps, Keeps, chained, chosen, whatever, past_keeps, keeps, rest_keeps, take_takes, all_keeps}

need_takes : (attribute : Bool) (k : Kind) → same_kind End k ≡ false → PastTakes (need attribute k)
unfolding need
need_takes attribute k other ts = chosen (Below (count ts)) _ _ (is k ts) (λ found. one_fewer k ts other found) (λ _. tt)

need_keeps : (attribute : Bool) (k : Kind) → same_kind End k ≡ false → PastKeeps (need attribute k)
need_keeps attribute k other = past_keeps (need attribute k) (need_takes attribute k other)

number_takes : (demand : NumberRule) → Takes (number demand)
unfolding number
number_takes demand ts =
    chained (Below (count ts)) (After (count ts)) _ (need true Number ts) (need_takes true Number refl ts) (λ u low.
    whatever {A = ℤ} (After {A = ℤ} (count ts)) (λ n. Ok (n, u)) _ (λ n. low))

number_keeps : (demand : NumberRule) → Keeps (number demand)
number_keeps demand = keeps (number demand) (number_takes demand)

triple_takes : (demand : NumberRule) → Takes (triple demand)
unfolding triple
triple_takes demand ts =
    chained (Below (count ts)) (After (count ts)) _ (need true OpenRound ts) (need_takes true OpenRound refl ts) (λ u low.
    chained (After (count ts)) (After (count ts)) _ (number demand u) (number_keeps demand (count ts) u low) (λ x low1.
    chained (Below (count ts)) (After (count ts)) _ (need true Comma x.1) (need_keeps true Comma refl (count ts) x.1 low1) (λ v low2.
    chained (After (count ts)) (After (count ts)) _ (number demand v) (number_keeps demand (count ts) v low2) (λ y low3.
    chained (Below (count ts)) (After (count ts)) _ (need true Comma y.1) (need_keeps true Comma refl (count ts) y.1 low3) (λ w low4.
    chained (After (count ts)) (After (count ts)) _ (number demand w) (number_keeps demand (count ts) w low4) (λ z low5.
    chained (Below (count ts)) (After (count ts)) _ (need true CloseRound z.1) (need_keeps true CloseRound refl (count ts) z.1 low5) (λ end low6. low6)))))))

row_takes : (last : NumberRule) → Takes (row last)
unfolding row
row_takes last ts =
    chained (Below (count ts)) (After (count ts)) _ (need true OpenRound ts) (need_takes true OpenRound refl ts) (λ u low.
    chained (After (count ts)) (After (count ts)) _ (number Any u) (number_keeps Any (count ts) u low) (λ x low1.
    chained (Below (count ts)) (After (count ts)) _ (need true Comma x.1) (need_keeps true Comma refl (count ts) x.1 low1) (λ v low2.
    chained (After (count ts)) (After (count ts)) _ (number Any v) (number_keeps Any (count ts) v low2) (λ y low3.
    chained (Below (count ts)) (After (count ts)) _ (need true Comma y.1) (need_keeps true Comma refl (count ts) y.1 low3) (λ w low4.
    chained (After (count ts)) (After (count ts)) _ (number Any w) (number_keeps Any (count ts) w low4) (λ z low5.
    chained (Below (count ts)) (After (count ts)) _ (need true Comma z.1) (need_keeps true Comma refl (count ts) z.1 low5) (λ a low6.
    chained (After (count ts)) (After (count ts)) _ (number last a) (number_keeps last (count ts) a low6) (λ l low7.
    chained (Below (count ts)) (After (count ts)) _ (need true CloseRound l.1) (need_keeps true CloseRound refl (count ts) l.1 low7) (λ end low8. low8)))))))))

row_keeps : (last : NumberRule) → Keeps (row last)
row_keeps last = keeps (row last) (row_takes last)

rows_take : Takes rows
unfolding rows
rows_take ts =
    chained (Below (count ts)) (After (count ts)) _ (need true OpenRound ts) (need_takes true OpenRound refl ts) (λ u low.
    chained (After (count ts)) (After (count ts)) _ (row Zero u) (row_keeps Zero (count ts) u low) (λ x low1.
    chained (Below (count ts)) (After (count ts)) _ (need true Comma x.1) (need_keeps true Comma refl (count ts) x.1 low1) (λ v low2.
    chained (After (count ts)) (After (count ts)) _ (row Zero v) (row_keeps Zero (count ts) v low2) (λ y low3.
    chained (Below (count ts)) (After (count ts)) _ (need true Comma y.1) (need_keeps true Comma refl (count ts) y.1 low3) (λ w low4.
    chained (After (count ts)) (After (count ts)) _ (row Zero w) (row_keeps Zero (count ts) w low4) (λ z low5.
    chained (Below (count ts)) (After (count ts)) _ (need true Comma z.1) (need_keeps true Comma refl (count ts) z.1 low5) (λ a low6.
    chained (After (count ts)) (After (count ts)) _ (row One a) (row_keeps One (count ts) a low6) (λ o low7.
    chained (Below (count ts)) (After (count ts)) _ (need true CloseRound o.1) (need_keeps true CloseRound refl (count ts) o.1 low7) (λ end low8. low8)))))))))

op_entry_takes : (first : Bool) → Takes (op_entry first)
unfolding op_entry
op_entry_takes first ts =
    chained (Below (count ts)) (After (count ts)) _ (need true Text ts) (need_takes true Text refl ts) (λ u low.
    chosen (After (count ts)) _ _ (is_op_entry first (text ts)) (λ _. low) (λ _. tt))

one_of_takes : (words : List (List ℕ)) → Takes (one_of words)
unfolding one_of
one_of_takes words ts =
    chained (Below (count ts)) (After (count ts)) _ (need true Text ts) (need_takes true Text refl ts) (λ u low.
    chosen (After (count ts)) _ _ (is_any words (text ts)) (λ _. low) (λ _. tt))

target_takes : Takes target
unfolding target
target_takes ts =
    chained (Below (count ts)) (After (count ts)) _ (take PathText ts) (take_takes PathText refl ts) (λ u low.
    whatever (After (count ts)) _ (path_in (line_of ts) (text ts)) (λ path. low))

-- an element after others, of any kind that takes a token
next_element_takes : {A : Type 0} (how : Reads A) → ((first : Bool) → Takes (how.form first)) → (found : List A) → Takes (next_element how found)
unfolding next_element one_more
next_element_takes {A} how takes found ts =
    chained (Below (count ts)) (After (count ts)) _ (need how.attribute Comma ts) (need_takes how.attribute Comma refl ts) (λ u low.
    chosen (After (count ts)) _ _ (is CloseSquare u) (λ _. low) (λ _.
    chosen (After (count ts)) _ _ (how.begins u && nat_le (limit_of Elements) (length found)) (λ _. tt) (λ _.
    chained (After (count ts)) (After (count ts)) _ (how.form false u) (keeps (how.form false) (takes false) (count ts) u low) (λ x low1. low1))))

list_of_takes : {A : Type 0} (how : Reads A) → ((first : Bool) → Takes (how.form first)) → Takes (list_of how)
unfolding list_of
list_of_takes {A} how takes ts =
    chained (Below (count ts)) (After (count ts)) _ (need how.attribute OpenSquare ts) (need_takes how.attribute OpenSquare refl ts) (λ u low.
    chosen (After (count ts)) _ _ (is CloseSquare u) (λ _. rest_keeps (count ts) u low) (λ _.
    chained (After (count ts)) (After (count ts)) _ (how.form true u) (keeps (how.form true) (takes true) (count ts) u low) (λ x low1.
    all_keeps CloseSquare (next_element how) (λ found. keeps (next_element how found) (next_element_takes how takes found)) (x.0 ∷ []) (count ts) x.1 low1)))

pub next_number_takes : (found : List ℤ) → Takes (next_element numbers found)
next_number_takes = next_element_takes numbers (λ first. number_takes Any)

pub next_triple_takes : (found : List Vec3) → Takes (next_element triples found)
next_triple_takes = next_element_takes triples (λ first. triple_takes Any)

pub next_op_entry_takes : (found : List (List ℕ)) → Takes (next_element op_entries found)
next_op_entry_takes = next_element_takes op_entries op_entry_takes

pub next_target_takes : (found : List (List (List ℕ))) → Takes (next_element in_list found)
next_target_takes = next_element_takes in_list (λ first. target_takes)

-- a value that is made of what a form gives
made : {A B : Type 0} (make : A → B) (form : Form A) → Takes form → Takes (λ ts. form ts >>= λ x. Ok (make x.0, x.1))
made make form takes ts = chained (After (count ts)) (After (count ts)) _ (form ts) (takes ts) (λ x low. low)

value_of_takes : (role : AttributeKind) → Takes (value_of role)
value_of_takes role.Points = made _ (list_of triples) (list_of_takes triples (λ first. triple_takes Any))
value_of_takes role.Numbers = made _ (list_of numbers) (list_of_takes numbers (λ first. number_takes Any))
value_of_takes role.Colors = made _ (list_of triples) (list_of_takes triples (λ first. triple_takes Any))
value_of_takes role.ByteColors = made _ (list_of triples) (list_of_takes triples (λ first. triple_takes Any))
value_of_takes role.OpOrder = made _ (list_of op_entries) (list_of_takes op_entries op_entry_takes)
value_of_takes role.Visibility = made _ (one_of _) (one_of_takes _)
value_of_takes role.Purpose = made _ (one_of _) (one_of_takes _)
value_of_takes role.Vector = made _ (triple Any) (triple_takes Any)
value_of_takes role.Angle = made _ (number Turn) (number_takes Turn)
value_of_takes role.Angles = made _ (triple Turn) (triple_takes Turn)
value_of_takes role.Transform = made _ rows rows_take
value_of_takes role.ByteColor = made _ (triple Any) (triple_takes Any)

pub used_value_takes : (role : AttributeKind) → Takes (used_value role)
unfolding used_value
used_value_takes role ts = chosen (After (count ts)) _ _ (is_word (codes "None") ts) (λ _. tt) (λ _. value_of_takes role ts)

pub targets_keep : Keeps targets
unfolding targets one_target
targets_keep n ts low =
    chosen (After n) _ _ (is_word (codes "None") ts) (λ _. rest_keeps n ts low) (λ _.
    chosen (After n) _ _ (is PathText ts) (λ _.
    chained (After n) (After n) _ (target ts) (keeps target target_takes n ts low) (λ path low1. low1)) (λ _.
    keeps (list_of in_list) (list_of_takes in_list (λ first. target_takes)) n ts low))
