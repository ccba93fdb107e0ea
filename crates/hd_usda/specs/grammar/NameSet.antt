-- The names that were seen.
use Rattle.std.specs.Prelude.{ℕ, List, Bool, Result, Ok, Err, if◌then◌else◌}
use Rattle.std.specs.Ordering.{nat_cmp}
use Rattle.std.specs.Cmp.Lexicographic.{slice_cmp}
use Rattle.std.specs.FinSet.{FinSet, contains, insert}
use Rattle.hd_layer.specs.declared.fault.LayerWhy.TheVariants.{Twice, LeftOut}
use Rattle.hd_usda.specs.reading.Cursor.{Fault, fault_in}

-- names that were seen
abbrev pub NameSet : Type 0
NameSet = FinSet (slice_cmp nat_cmp)

-- a name in this line, which must be none of those seen, and the names with it
unfoldable pub new_name : Bool → List ℕ → ℕ → NameSet → Result NameSet Fault
new_name left_out name line seen =
    if contains seen name then Err (fault_in line Twice)
    else (if left_out then Err (fault_in line LeftOut)
    else Ok (insert seen name))
