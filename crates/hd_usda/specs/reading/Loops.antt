-- Repetition: one form after the other.
use Rattle.std.specs.Prelude.{ℕ, zero, suc, Ok, Err, if◌then◌else◌}
use Rattle.hd_lexer.specs.declared.lexer.Kind.{Kind}
use Rattle.hd_layer.specs.declared.fault.LayerWhy.TheVariants.{Syntax}
use Rattle.hd_usda.specs.reading.Cursor.{◌>>=◌, Past, Form, is, rest, count, fault_at}

-- form* close, with fewer than n forms; each takes a token, so one more than the tokens that are left is enough
unfoldable pub past_by : Kind → Past → ℕ → Past
past_by close form zero ts = Err (fault_at ts Syntax)
past_by close form (suc n) ts =
    if is close ts then Ok (rest ts) else (form ts >>= past_by close form n)

-- form* close
unfoldable pub past : Kind → Past → Past
past close form ts = past_by close form (suc (count ts)) ts

-- the same with what was read so far
unfoldable pub all_by : {S : Type 0} → Kind → (S → Form S) → ℕ → S → Form S
all_by close form zero s ts = Err (fault_at ts Syntax)
all_by close form (suc n) s ts =
    if is close ts then Ok (s, rest ts) else (form s ts >>= λ r. all_by close form n r.0 r.1)

unfoldable pub all : {S : Type 0} → Kind → (S → Form S) → S → Form S
all close form s ts = all_by close form (suc (count ts)) s ts

-- (separator form)* with what was read so far
unfoldable pub chain_by : {S : Type 0} → Kind → (S → Form S) → ℕ → S → Form S
chain_by separator form zero s ts = Err (fault_at ts Syntax)
chain_by separator form (suc n) s ts =
    if is separator ts then (form s (rest ts) >>= λ r. chain_by separator form n r.0 r.1) else Ok (s, ts)

unfoldable pub chain : {S : Type 0} → Kind → (S → Form S) → S → Form S
chain separator form s ts = chain_by separator form (suc (count ts)) s ts
