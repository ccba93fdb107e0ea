-- The limits of the program: the number of each, and the word for it in fault lines.
use Rattle.std.specs.Prelude.{ℕ, List, codes}
use Rattle.hd_layer.specs.declared.limits.Which.{Which}
use Rattle.hd_layer.specs.declared.limits.Which.TheVariants.{Layers, Workers, Demo, Bytes, Prims, Depth, Name, Elements, Literal, Nesting, Frame, Triangles}

-- the greatest number that is within the limit
abbrev pub limit_of : Which → ℕ
limit_of Layers = 8
limit_of Workers = 16
limit_of Demo = 2048
limit_of Bytes = 1048576
limit_of Prims = 65536
limit_of Depth = 32
limit_of Name = 64
limit_of Elements = 65536
limit_of Literal = 1048576
limit_of Nesting = 64
limit_of Frame = 1024
limit_of Triangles = 1048576

-- the word for it
abbrev pub word_of : Which → List ℕ
word_of Layers = codes "layers"
word_of Workers = codes "workers"
word_of Demo = codes "demo"
word_of Bytes = codes "bytes"
word_of Prims = codes "prims"
word_of Depth = codes "depth"
word_of Name = codes "name"
word_of Elements = codes "elements"
word_of Literal = codes "literal"
word_of Nesting = codes "nesting"
word_of Frame = codes "frame"
word_of Triangles = codes "triangles"
