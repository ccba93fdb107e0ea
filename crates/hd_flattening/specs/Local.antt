-- The matrix that a prim's own ops make.
use Rattle.std.specs.Prelude.{Bool, false, ◌||◌, nat_eq, if◌then◌else◌, List, [], ◌∷◌, Option, Some, None, codes, drop}
use Rattle.std.specs.FinMap.{get}
use Rattle.std.specs.List.{starts_with}
use Rattle.std.specs.Option.{option_and_then}
use Rattle.hd_num.specs.declared.op.Op as ops
use Rattle.hd_num.specs.Matrices.{Rows, identity, product, if_in_range}
use Rattle.hd_num.specs.Ops.{op_matrix}
use Rattle.hd_path.specs.Names.{Name, is_same}
use Rattle.hd_value.specs.Maps.{Map}
use Rattle.hd_tokens.specs.Locators.{order_at, reset_at}
use Rattle.hd_flattening.specs.Values.{tokens_of, is_set, named_op}

-- one matrix and then another one, and none where either or the product is out of range
abbrev pub compose : Option Rows → Option Rows → Option Rows
compose None b = None
compose (Some a) None = None
compose (Some a) (Some b) = if_in_range (product a b)

-- the listed entries, in order
abbrev pub order_of : Map → List Name
order_of prim = tokens_of (get prim order_at)

-- the name of the op that an entry lists: what is after `xformOp:`
abbrev pub listed_name : Name → Option Name
listed_name entry = if starts_with nat_eq entry (codes "xformOp:") then Some (drop 8 entry) else None

-- the op that an entry lists, where it has a value
abbrev pub listed_op : Map → Name → Option ops.Op
listed_op prim entry = option_and_then (named_op prim) (listed_name entry)

-- the matrix of an op; without an op it is the identity
abbrev pub matrix_of : Option ops.Op → Option Rows
matrix_of None = Some identity
matrix_of (Some op) = if_in_range (op_matrix op)

-- the listed ops, from the last to the first, each multiplied on the right
abbrev pub ops_product : Map → (entries : List Name) → Option Rows
ops_product prim [] = Some identity
ops_product prim (entry ∷ entries) = compose (ops_product prim entries) (matrix_of (listed_op prim entry))

-- the matrix of the listed ops, and none where it is out of range
abbrev pub local : Map → Option Rows
local prim = ops_product prim (order_of prim)

-- whether the first entry leaves out the matrix of the parent
abbrev pub begins_with_reset : (entries : List Name) → Bool
begins_with_reset [] = false
begins_with_reset (entry ∷ entries) = is_same entry (codes "!resetXformStack!")

-- whether the prim's matrix is its local one alone: by the reset entry, or as the root of a prototype
abbrev pub is_reset : Map → Bool
is_reset prim = begins_with_reset (order_of prim) || is_set (get prim reset_at)
