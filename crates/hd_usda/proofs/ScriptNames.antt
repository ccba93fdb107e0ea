-- A word that begins a prim or a variant set begins no property.
use Rattle.std.proofs.Common.{◌≡◌, ℕ, List, Bool, true, false, ◌&&◌, ◌||◌, Result, Ok, Err, ◌⊎◌, inl, inr, refl, sym, subst, codes}
use Rattle.std.specs.Str.{bytes_eq}
use Rattle.std.proofs.lemmas.Bool.{and_parts}
use Rattle.std.proofs.lemmas.Slice.Eq.{bytes_eq-Decides}
use Rattle.hd_lexer.specs.declared.lexer.Kind.TheVariants.{Word}
use Rattle.hd_layer.specs.declared.fault.LayerWhy.TheVariants.{Syntax}
use Rattle.hd_tokens.specs.Names.{is_any}
use Rattle.hd_lexer.specs.Lexing.{Tokens}
use Rattle.hd_usda.specs.reading.Cursor.{◌>>=◌, is, is_word, text, fault_at}
use Rattle.hd_usda.specs.grammar.Metadata.{list_ops}
use Rattle.hd_usda.specs.grammar.Header.{reserved_words, list_op, past_word, past_modifiers, own_type}
use Rattle.hd_usda.specs.grammar.Prims.{is_prim}
use Rattle.hd_usda.specs.Laws.{after_own_name, after_property_name, begins_with_equals, has_equals}

-- a word that is no list op, no modifier, no `rel` and no type
record Begins (word : List ℕ) : Type 0 where
  no_list_op : is_any list_ops word ≡ false
  no_custom : bytes_eq word (codes "custom") ≡ false
  no_uniform : bytes_eq word (codes "uniform") ≡ false
  no_varying : bytes_eq word (codes "varying") ≡ false
  no_rel : bytes_eq word (codes "rel") ≡ false
  no_type : is_any reserved_words word ≡ true

other_word : (word : List ℕ) (ts : Tokens) → bytes_eq (text ts) word ≡ false → is_word word ts ≡ false
unfolding is_word
other_word word ts e = rw e (no_and (is Word ts))
  where
    no_and : (c : Bool) → (c && false) ≡ false
    no_and true = refl
    no_and false = refl

no_list_op_at : (ts : Tokens) → is Word ts ≡ true → is_any list_ops (text ts) ≡ false → list_op ts ≡ Ok (false, ts)
unfolding list_op
no_list_op_at ts word e = rw (word, e) refl

no_modifier_at : (ts : Tokens) → is_word (codes "custom") ts ≡ false → is_word (codes "uniform") ts ≡ false → is_word (codes "varying") ts ≡ false → past_modifiers ts ≡ ts
unfolding past_modifiers past_word
no_modifier_at ts custom uniform varying = rw (custom, uniform, varying) refl

no_type_name : (ts : Tokens) → is_word (codes "rel") ts ≡ false → is Word ts ≡ true → is_any reserved_words (text ts) ≡ true → after_own_name ts ≡ Err (fault_at ts Syntax)
unfolding after_own_name own_type
no_type_name ts rel word e = rw (rel, word, e) refl

-- such a word has no name of a property after it
no_name : (ts : Tokens) → is Word ts ≡ true → Begins (text ts) → has_equals ts ≡ false
unfolding after_property_name
no_name ts word begins =
    subst (λ o. begins_with_equals (o >>= λ l. after_own_name (past_modifiers l.1)) ≡ false) (sym (no_list_op_at ts word begins.no_list_op))
    (subst (λ us. begins_with_equals (after_own_name us) ≡ false)
    (sym (no_modifier_at ts (other_word (codes "custom") ts begins.no_custom) (other_word (codes "uniform") ts begins.no_uniform) (other_word (codes "varying") ts begins.no_varying)))
    (subst (λ o. begins_with_equals o ≡ false) (sym (no_type_name ts (other_word (codes "rel") ts begins.no_rel) word begins.no_type)) refl))

begins_def : Begins (codes "def")
begins_def = record { no_list_op = refl; no_custom = refl; no_uniform = refl; no_varying = refl; no_rel = refl; no_type = refl }

begins_over : Begins (codes "over")
begins_over = record { no_list_op = refl; no_custom = refl; no_uniform = refl; no_varying = refl; no_rel = refl; no_type = refl }

begins_class : Begins (codes "class")
begins_class = record { no_list_op = refl; no_custom = refl; no_uniform = refl; no_varying = refl; no_rel = refl; no_type = refl }

begins_variant_set : Begins (codes "variantSet")
begins_variant_set = record { no_list_op = refl; no_custom = refl; no_uniform = refl; no_varying = refl; no_rel = refl; no_type = refl }

this_word : (ts : Tokens) (word : List ℕ) → Begins word → is_word word ts ≡ true → has_equals ts ≡ false
unfolding is_word
this_word ts word begins e =
    let parts = and_parts (is Word ts) (bytes_eq (text ts) word) e in
    no_name ts parts.0 (subst Begins (sym ((bytes_eq-Decides (text ts) word).0 parts.1)) begins)

either_word : (a b c : Bool) → (a || b || c) ≡ true → (a ≡ true) ⊎ ((b ≡ true) ⊎ (c ≡ true))
either_word true b c e = inl refl
either_word false true c e = inr (inl refl)
either_word false false c e = inr (inr e)

-- a prim has no name of a property
pub prim_has_no_name : (ts : Tokens) → is_prim ts ≡ true → has_equals ts ≡ false
unfolding is_prim
prim_has_no_name ts e = by_word (either_word (is_word (codes "def") ts) (is_word (codes "over") ts) (is_word (codes "class") ts) e)
  where
    by_word : (is_word (codes "def") ts ≡ true) ⊎ ((is_word (codes "over") ts ≡ true) ⊎ (is_word (codes "class") ts ≡ true)) → has_equals ts ≡ false
    by_word (inl e) = this_word ts (codes "def") begins_def e
    by_word (inr (inl e)) = this_word ts (codes "over") begins_over e
    by_word (inr (inr e)) = this_word ts (codes "class") begins_class e

-- a variant set has none either
pub variant_set_has_no_name : (ts : Tokens) → is_word (codes "variantSet") ts ≡ true → has_equals ts ≡ false
variant_set_has_no_name ts e = this_word ts (codes "variantSet") begins_variant_set e
