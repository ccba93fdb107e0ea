-- The values of a prim that flattening reads.
use Rattle.std.specs.Prelude.{Bool, false, List, [], Option, Some, None}
use Rattle.std.specs.FinMap.{get}
use Rattle.hd_num.specs.declared.op.Op as ops
use Rattle.hd_num.specs.declared.vector.Rgb.{Rgb}
use Rattle.hd_tokens.specs.Locators.{op_at}
use Rattle.hd_value.specs.declared.value.Value.{Value}
use Rattle.hd_value.specs.declared.value.Value.TheVariants.{Token, Tokens, Colors, Paths, Op, Flag}
use Rattle.hd_value.specs.Maps.{Map}
use Rattle.hd_path.specs.Paths.{Path}
use Rattle.hd_path.specs.Names.{Name}

-- the tokens of a value, and none where there is another value, or nothing
abbrev pub tokens_of : Option Value → List Name
tokens_of (Some (Tokens ts)) = ts
tokens_of _ = []

abbrev pub token_of : Option Value → Option Name
token_of (Some (Token t)) = Some t
token_of _ = None

abbrev pub paths_of : Option Value → Option (List Path)
paths_of (Some (Paths ps)) = Some ps
paths_of _ = None

abbrev pub colors_of : Option Value → List Rgb
colors_of (Some (Colors cs)) = cs
colors_of _ = []

abbrev pub op_of : Option Value → Option ops.Op
op_of (Some (Op op)) = Some op
op_of _ = None

-- whether there is a flag that is set
abbrev pub is_set : Option Value → Bool
is_set (Some (Flag b)) = b
is_set _ = false

-- the op of a name
abbrev pub named_op : Map → Name → Option ops.Op
named_op prim name = op_of (get prim (op_at name))
