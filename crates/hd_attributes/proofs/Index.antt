-- The rows of the scene of sound layers, prim by prim.
use Rattle.std.proofs.Common.{◌≡◌, cond, if◌then◌else◌, List, [], ◌∷◌, length, Option, Some, None, is_some, refl, sym, ◌∙◌, ap}
use Rattle.std.specs.Cmp.{IsTotalOrder, eq_by_cmp_equiv}
use Rattle.std.specs.List.{AllByRecursion, filter_map, cons_option}
use Rattle.std.specs.List.Sorted.{IsStrictlySortedBy}
use Rattle.std.specs.Map.{keys_of}
use Rattle.std.specs.Option.{option_map, option_and_then}
use Rattle.std.specs.Ordering.{is_eq}
use Rattle.std.specs.declared.cmp.Ordering.{Ordering}
use Rattle.std.specs.declared.cmp.Ordering.TheVariants.{Less}
use Rattle.std.specs.FinMap.{get, find, keys, entries, get-entries}
use Rattle.hd_path.specs.Names.{Name, is_same}
use Rattle.hd_path.specs.Paths.{Path, path_cmp}
use Rattle.hd_path.proofs.Logic.{none_there}
use Rattle.hd_tokens.specs.Kinds.{mesh_kind, points_kind, camera_kind, material_kind, point_instancer_kind}
use Rattle.hd_value.specs.Maps.{Map}
use Rattle.hd_scene.specs.declared.prims.Entry.{Entry}
use Rattle.hd_scene.proofs.Ascending.{keys_ascend}
use Rattle.hd_scene.proofs.Children.{path_cmp_total}
use Rattle.hd_retained.specs.Layers.{Layer}
use Rattle.hd_flattening.specs.Flat.{or_if_empty}
use Rattle.hd_rprim.specs.declared.buffer.Buffer.TheVariants as buffer
use Rattle.hd_rprim.specs.declared.row.Shape.{Shape}
use Rattle.hd_rprim.specs.declared.row.Shape.TheVariants.{Mesh, Points}
use Rattle.hd_rprim.specs.declared.row.Row.{Row}
use Rattle.hd_rprim.specs.declared.row.Row.TheVariants.{Rprim, Camera, Material, Instancer}
use Rattle.hd_rprim.specs.Fans.{triangles}
use Rattle.hd_rprim.specs.Readings.{white}
use Rattle.hd_rprim.specs.Shown.{ShownRow}
use Rattle.hd_rprim.specs.PrimRows as scene
use Rattle.hd_rprim.specs.PrimRows.{faces_read, row_read, contents_read, row_of_prim}
use Rattle.hd_stack.specs.Stacks.{terminal_scene, AreSound}
use Rattle.hd_attributes.specs.Attributes.{kind_at}
use Rattle.hd_attributes.specs.Rows.{face_count, rprim_row, instancer_row, row_of_kind, shape_contents, contents_of, row_at}
use Rattle.hd_attributes.specs.Laws.{RowsAreOfAttributes}
use Rattle.hd_attributes.proofs.PrimKinds.{composed_there, terminal_there, terminal_keys}
use Rattle.hd_attributes.proofs.Read.{IsRead, terminal_values, terminal_entry, values_read}

-- ---- the row of a prim

module _ (layers : List Layer) (path : Path) (values : Map) (read : IsRead layers path values) where
  faces : (shape : Shape) → faces_read shape values ≡ face_count shape layers path
  faces Mesh = ap length read.counts
  faces Points = refl

  rprim : (shape : Shape) → scene.rprim_row shape values ≡ rprim_row shape layers path
  rprim shape = λ i. record {
    shape = shape;
    matrix = read.matrix i;
    visible = read.visible i;
    purpose = read.purpose i;
    binding = read.binding i;
    instanced_by = read.instanced_by i;
    faces = faces shape i;
    points = None;
    triangles = None;
    colors = None;
  }

  instancer : scene.instancer_row values ≡ instancer_row layers path
  instancer = λ i. record {
    matrix = read.matrix i;
    visible = read.visible i;
    instanced_by = read.instanced_by i;
    positions = read.positions i;
    proto_indices = read.proto_indices i;
    targets = read.targets i;
  }

  row : (kind : Name) → row_read kind values ≡ row_of_kind kind layers path
  row kind = λ i.
      if is_same kind mesh_kind then Some (Rprim (rprim Mesh i))
      else (if is_same kind points_kind then Some (Rprim (rprim Points i))
      else (if is_same kind camera_kind then Some (Camera (read.matrix i))
      else (if is_same kind material_kind then Some (Material (read.material_color i))
      else (if is_same kind point_instancer_kind then Some (Instancer (instancer i))
      else None))))

  of_shape : (shape : Shape) → scene.shape_contents shape values ≡ shape_contents shape layers path
  of_shape Mesh = λ i. Some (buffer.Points (read.points i)) ∷ Some (buffer.Triangles (triangles (read.counts i) (read.indices i))) ∷ Some (buffer.Colors (or_if_empty (read.colors i) (white ∷ []))) ∷ []
  of_shape Points = λ i. Some (buffer.Points (read.points i)) ∷ None ∷ Some (buffer.Colors (or_if_empty (read.colors i) (white ∷ []))) ∷ []

  contents : (r : Row) → contents_read r values ≡ contents_of r layers path
  contents (Rprim r) = of_shape r.shape
  contents (Camera matrix) = refl
  contents (Material color) = refl
  contents (Instancer r) = refl

  shown_row : (kind : Name) → row_of_prim (path, record { kind = kind; values = values }) ≡ option_map (λ r. record { path = path; row = r; contents = contents_of r layers path }) (row_of_kind kind layers path)
  shown_row kind = by (row_read kind values) ∙ ap (option_map (λ r. record { path = path; row = r; contents = contents_of r layers path })) (row kind)
    where
      by : (o : Option Row) → option_map {U = ShownRow} (λ r. record { path = path; row = r; contents = contents_read r values }) o ≡ option_map (λ r. record { path = path; row = r; contents = contents_of r layers path }) o
      by None = refl
      by (Some r) = λ i. Some (record { path = path; row = r; contents = contents r i })

-- ---- all rows

-- what is given for the key of each entry is its value
Agree : {K X : Type 0} → (K → Option X) → List (K × X) → Type 0
Agree given [] = Unit {0}
Agree given (e ∷ es) = (given e.0 ≡ Some e.1) × Agree given es

-- so a function of entries can be one of keys
filter_map-keys : {K X Y : Type 0} (f : K × X → Option Y) (given : K → Option X) (es : List (K × X)) → Agree given es → filter_map f es ≡ filter_map (λ k. option_and_then (λ x. f (k, x)) (given k)) (keys_of es)
unfolding Agree
filter_map-keys f given [] agree = refl
filter_map-keys {X = X} f given (e ∷ es) agree =
    ap (cons_option (f e)) (filter_map-keys f given es agree.1)
    ∙ ap (λ (o : Option X). cons_option (option_and_then (λ x. f (e.0, x)) o) (filter_map (λ k. option_and_then (λ x. f (k, x)) (given k)) (keys_of es))) (sym agree.0)

-- a value is found further on for keys above the first
agree_further : {K X : Type 0} {R : K → K → Ordering} → IsTotalOrder R → (e : K × X) (es ds : List (K × X)) → AllByRecursion (λ y. R e.0 y ≡ Less) (keys_of ds) → Agree (λ k. find R k es) ds → Agree (λ k. find R k (e ∷ es)) ds
unfolding Agree
agree_further total e es [] above agree = tt
agree_further {R = R} total e es (d ∷ ds) above agree =
    (ap (λ b. cond b (Some e.1) (find R d.0 es)) ((eq_by_cmp_equiv total).symm d.0 e.0 ∙ ap is_eq above.0) ∙ agree.0, agree_further total e es ds above.1 agree.1)

-- a map gives the value of each of its keys
entries_agree : {K X : Type 0} {R : K → K → Ordering} → IsTotalOrder R → (es : List (K × X)) → IsStrictlySortedBy R (keys_of es) → Agree (λ k. find R k es) es
unfolding Agree IsStrictlySortedBy
entries_agree total [] sorted = tt
entries_agree {R = R} total (e ∷ es) sorted =
    (ap (λ b. cond b (Some e.1) (find R e.0 es)) ((eq_by_cmp_equiv total).refl e.0), agree_further total e es es sorted.0 (entries_agree total es sorted.1))

filter_map-same : {X Y : Type 0} (f g : X → Option Y) (xs : List X) → ((x : X) → f x ≡ g x) → filter_map f xs ≡ filter_map g xs
filter_map-same f g [] same = refl
filter_map-same f g (x ∷ xs) same = ap (λ o. cons_option o (filter_map f xs)) (same x) ∙ ap (cons_option (g x)) (filter_map-same f g xs same)

-- the row at a path
row_at_path : (layers : List Layer) → AreSound layers → (path : Path) → option_and_then (λ (e : Entry). row_of_prim (path, e)) (get (terminal_scene layers) path) ≡ row_at layers path
row_at_path layers sound path = by (kind_at layers path) refl
  where
    by : (o : Option Name) → kind_at layers path ≡ o → option_and_then (λ (e : Entry). row_of_prim (path, e)) (get (terminal_scene layers) path) ≡ row_at layers path
    by None none =
        ap (option_and_then (λ (e : Entry). row_of_prim (path, e))) (none_there (get (terminal_scene layers) path) (terminal_there layers path ∙ ap is_some none))
        ∙ ap (λ (o : Option Name). option_map {U = ShownRow} (λ r. record { path = path; row = r; contents = contents_of r layers path }) (option_and_then (λ kind. row_of_kind kind layers path) o)) (sym none)
    by (Some kind) is =
        ap (option_and_then (λ (e : Entry). row_of_prim (path, e))) (terminal_entry layers path kind is)
        ∙ shown_row layers path (terminal_values layers path) (values_read layers sound path (composed_there layers path ∙ ap is_some is)) kind
        ∙ ap (λ (o : Option Name). option_map {U = ShownRow} (λ r. record { path = path; row = r; contents = contents_of r layers path }) (option_and_then (λ k. row_of_kind k layers path) o)) (sym is)

-- the rows of the scene are those of the index
pub rows_are : RowsAreOfAttributes
rows_are layers sound =
    let whole = terminal_scene layers in
    filter_map-keys row_of_prim (λ k. find path_cmp k (entries whole)) (entries whole) (entries_agree path_cmp_total (entries whole) (keys_ascend whole))
    ∙ filter_map-same (λ k. option_and_then (λ (e : Entry). row_of_prim (k, e)) (find path_cmp k (entries whole))) (row_at layers) (keys whole) (λ k. ap (option_and_then (λ (e : Entry). row_of_prim (k, e))) (sym (get-entries whole k)) ∙ row_at_path layers sound k)
    ∙ ap (filter_map (row_at layers)) (terminal_keys layers)
