-- What layers author together, attribute by attribute. The first layer is the strongest.
use Rattle.std.specs.Prelude.{ℤ, List, [], ◌∷◌, Option, Some, None, option_and_then, unwrap_or}
use Rattle.std.specs.List.{filter_map, flat_map}
use Rattle.std.specs.Option.{option_or}
use Rattle.std.specs.FinMap.{get, keys}
use Rattle.hd_num.specs.declared.op.Op.{Op}
use Rattle.hd_num.specs.declared.vector.Vec3.{Vec3}
use Rattle.hd_path.specs.Names.{Name}
use Rattle.hd_path.specs.Paths.{Path, path_cmp}
use Rattle.hd_layer.specs.declared.spec.RawValue.{RawValue}
use Rattle.hd_schema.specs.OpValues.{numbers, triples, triple, kind_of, op_of_kind}
use Rattle.hd_schema.specs.Values.{words, paths, word}
use Rattle.hd_retained.specs.Layers.{Layer, LayerPrim, kind_in}
use Rattle.hd_merging.specs.Merges.{first_kind, table_of}

-- the value that a layer authors for an attribute, or a relationship, of the prim at a path
abbrev pub opinion : Layer → Path → Name → Option RawValue
opinion layer path name = option_and_then (λ (p : LayerPrim). get p.properties name) (get layer path)

-- the value in the first layer that authors one
abbrev pub attribute : List Layer → Path → Name → Option RawValue
attribute [] path name = None
attribute (layer ∷ layers) path name = option_or (opinion layer path name) (attribute layers path name)

-- the first of some kinds that is not empty, and none where there are no kinds
abbrev pub strongest_kind : List Name → Option Name
strongest_kind [] = None
strongest_kind (kind ∷ kinds) = Some (first_kind (kind ∷ kinds))

-- the kind of the prim at a path, which is there where some layer has it
abbrev pub kind_at : List Layer → Path → Option Name
kind_at layers path = strongest_kind (filter_map (λ layer. kind_in layer path) layers)

-- the paths of all prims, each once and in path order
abbrev pub all_paths : List Layer → List Path
all_paths layers = keys (table_of {R = path_cmp} (flat_map keys layers) (kind_at layers))

-- the lists of an attribute, empty where it is not authored
abbrev pub triples_of : List Layer → Path → Name → List Vec3
triples_of layers path name = unwrap_or (option_and_then triples (attribute layers path name)) []

abbrev pub numbers_of : List Layer → Path → Name → List ℤ
numbers_of layers path name = unwrap_or (option_and_then numbers (attribute layers path name)) []

abbrev pub words_of : List Layer → Path → Name → List Name
words_of layers path name = unwrap_or (option_and_then words (attribute layers path name)) []

-- its one word, its one triple, its paths, where it is authored
abbrev pub word_of : List Layer → Path → Name → Option Name
word_of layers path name = option_and_then word (attribute layers path name)

abbrev pub triple_of : List Layer → Path → Name → Option Vec3
triple_of layers path name = option_and_then triple (attribute layers path name)

abbrev pub paths_of : List Layer → Path → Name → Option (List Path)
paths_of layers path name = option_and_then paths (attribute layers path name)

-- the op of this name, where it has a value
abbrev pub op_of : List Layer → Path → Name → Option Op
op_of layers path name = option_and_then (op_of_kind (kind_of name)) (attribute layers path name)
