-- The transform ops that properties give.
use Rattle.std.specs.Prelude.{ℕ, ℤ, pos, unsigned_abs, int_div, List, [], ◌∷◌, Option, Some, None, codes, drop, find}
use Rattle.std.specs.Int.{int_rem_euclid}
use Rattle.std.specs.Option.{option_map, option_and_then}
use Rattle.std.specs.Str.{bytes_eq}
use Rattle.hd_num.specs.declared.axis.Axis.{Axis}
use Rattle.hd_num.specs.declared.axis.Axis.TheVariants.{X, Y, Z}
use Rattle.hd_num.specs.declared.op.Op.{Op}
use Rattle.hd_num.specs.declared.op.Op.TheVariants.{Translate, Scale, Rotate, RotateXyz, Transform}
use Rattle.hd_num.specs.declared.vector.Vec3.{Vec3}
use Rattle.hd_num.specs.Matrices.{Rows}
use Rattle.hd_layer.specs.declared.spec.RawValue.{RawValue}
use Rattle.hd_layer.specs.declared.spec.RawValue.TheVariants as raw
use Rattle.hd_path.specs.Names.{Name}
use Rattle.hd_tokens.specs.Properties.{first_part}

-- the item of a list of one
abbrev pub only : {A : Type 0} → List A → Option A
only [] = None
only (x ∷ []) = Some x
only (x ∷ y ∷ more) = None

-- the numbers of a value of numbers, the triples of one of triples, and a matrix
abbrev pub numbers : RawValue → Option (List ℤ)
numbers (raw.Numbers ns) = Some ns
numbers (raw.Triples vs) = None
numbers (raw.Words ws) = None
numbers (raw.Paths ps) = None
numbers (raw.Matrix m) = None

abbrev pub triples : RawValue → Option (List Vec3)
triples (raw.Triples vs) = Some vs
triples (raw.Numbers ns) = None
triples (raw.Words ws) = None
triples (raw.Paths ps) = None
triples (raw.Matrix m) = None

abbrev pub matrix : RawValue → Option Rows
matrix (raw.Matrix m) = Some m
matrix (raw.Numbers ns) = None
matrix (raw.Triples vs) = None
matrix (raw.Words ws) = None
matrix (raw.Paths ps) = None

-- the only number, and the only triple
abbrev pub number : RawValue → Option ℤ
number value = option_and_then only (numbers value)

abbrev pub triple : RawValue → Option Vec3
triple value = option_and_then only (triples value)

-- so many degrees in quarter turns, from 0 to 3
abbrev pub quarters : ℤ → ℕ
quarters degrees = unsigned_abs (int_rem_euclid (int_div degrees (pos 90)) (pos 4))

-- a turn about an axis
abbrev pub turn : Axis → ℤ → Op
turn axis degrees = Rotate axis (quarters degrees)

-- a turn about x, then y, then z
abbrev pub turns : Vec3 → Op
turns v = RotateXyz (quarters v.x) (quarters v.y) (quarters v.z)

-- a kind of ops, and the op that a value gives there
pub record OpValue : Type 0 where
  pub kind : Name
  pub op : RawValue → Option Op

abbrev pub op_value : Name → (RawValue → Option Op) → OpValue
op_value kind op = record { kind = kind; op = op }

-- the kinds of ops, and what the value of each is
abbrev pub op_values : List OpValue
op_values =
    op_value (codes "translate") (λ v. option_map Translate (triple v))
    ∷ op_value (codes "scale") (λ v. option_map Scale (triple v))
    ∷ op_value (codes "rotateX") (λ v. option_map (turn X) (number v))
    ∷ op_value (codes "rotateY") (λ v. option_map (turn Y) (number v))
    ∷ op_value (codes "rotateZ") (λ v. option_map (turn Z) (number v))
    ∷ op_value (codes "rotateXYZ") (λ v. option_map turns (triple v))
    ∷ op_value (codes "transform") (λ v. option_map Transform (matrix v))
    ∷ []

-- the op of a kind that a value gives
abbrev pub op_of_kind : Name → RawValue → Option Op
op_of_kind kind value = option_and_then (λ k. k.op value) (find (λ k. bytes_eq kind k.kind) op_values)

-- the kind of an op is in its name after `xformOp:`, up to the next colon
abbrev pub kind_of : Name → Name
kind_of name = first_part (drop 8 name)
