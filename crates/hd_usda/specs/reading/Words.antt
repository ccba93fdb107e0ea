-- Names that are too long.
use Rattle.std.specs.Prelude.{ℕ, List, length, Bool, nat_lt}
use Rattle.hd_layer.specs.declared.limits.Which.TheVariants.{Name}
use Rattle.hd_layer.specs.Limits.{limit_of}

-- longer than a name may be
abbrev pub is_long : List ℕ → Bool
is_long name = nat_lt (limit_of Name) (length name)
