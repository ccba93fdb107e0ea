-- What follows from the definitions.
use Rattle.std.specs.Prelude.{◌≡◌, ◌≢◌, ◌↔◌, ℕ, ◌-◌, ◌<◌, ℤ, true, false, List, [], ◌∷◌, length, Option, Some, None, All, Contains, slice_get, flat_map}
use Rattle.std.specs.FinMap.{get}
use Rattle.std.specs.Int.RustNames.{bit_or}
use Rattle.std.specs.Option.{option_map}
use Rattle.hd_num.specs.declared.vector.Rgb.{Rgb}
use Rattle.hd_num.specs.Matrices.{Rows}
use Rattle.hd_path.specs.Names.{Name}
use Rattle.hd_path.specs.Paths.{Path, is_prefix}
use Rattle.hd_tokens.specs.Locators.{Locator}
use Rattle.hd_value.specs.declared.groups.Group.{Group}
use Rattle.hd_value.specs.declared.groups.Group.TheVariants as group
use Rattle.hd_value.specs.Groups.{locator_of_group}
use Rattle.hd_value.specs.Maps.{Map}
use Rattle.hd_dirty.specs.Bits.{contains, has}
use Rattle.hd_dirty.specs.Kinds.{all_of}
use Rattle.hd_rprim.specs.declared.buffer.Buffer.{Buffer}
use Rattle.hd_rprim.specs.declared.buffer.Tri.{Tri}
use Rattle.hd_rprim.specs.declared.row.RprimRow.{RprimRow}
use Rattle.hd_rprim.specs.declared.row.InstancerRow.{InstancerRow}
use Rattle.hd_rprim.specs.declared.row.Row.{Row}
use Rattle.hd_rprim.specs.declared.row.Row.TheVariants.{Camera, Material}
use Rattle.hd_rprim.specs.declared.row_table.PathRow.{PathRow}
use Rattle.hd_rprim.specs.Fans.{fan, faces, takes_all, triangles}
use Rattle.hd_rprim.specs.PrimRows.{row_read, contents_read}
use Rattle.hd_rprim.specs.Rows.{blank}
use Rattle.hd_rprim.specs.Shown.{slots_of, without_slots}
use Rattle.hd_rprim.specs.Staged.{staged, staged_rprim, staged_instancer, wanted, buffers_of}
use Rattle.hd_rprim.specs.Tables.{place_of, row_of, rows_with, rows_without, AreRows}

-- all bits of a kind read the whole row into a blank one
abbrev pub AllBitsReadRow : Type 0
AllBitsReadRow = (kind : Name) (values : Map) (row : Row) → blank kind ≡ Some row → Some (staged (all_of kind) values row) ≡ row_read kind values

-- and they want all contents of that row
abbrev pub AllBitsWantContents : Type 0
AllBitsWantContents = (kind : Name) (values : Map) (row : Row) → blank kind ≡ Some row
    → buffers_of (all_of kind) values row ≡ contents_read (staged (all_of kind) values row) values

-- a row is read of a prim exactly where its kind has a blank row
abbrev pub RowsHaveBlanks : Type 0
RowsHaveBlanks = (kind : Name) (values : Map) → (blank kind ≡ None) ↔ (row_read kind values ≡ None)

-- with no bits a row stays as it is
abbrev pub NoBitsKeepRow : Type 0
NoBitsKeepRow = (values : Map) (row : Row) → staged 0 values row ≡ row

-- and no buffers are wanted
abbrev pub NoBitsWantNothing : Type 0
NoBitsWantNothing = (values : Map) (row : Row) → buffers_of 0 values row ≡ None ∷ None ∷ None ∷ []

-- some bits and then others read what the bits of both read at once
abbrev pub BitsAddUp : Type 0
BitsAddUp = (bits others : ℕ) (values : Map) (row : Row) → staged others values (staged bits values row) ≡ staged (bit_or bits others) values row

-- a part of a drawn row stays where the bit of its group is not set
pub record KeepsRprimParts (bits : ℕ) (values : Map) (row : RprimRow) : Type 0 where
  pub shape : (staged_rprim bits values row).shape ≡ row.shape
  pub matrix : has bits group.Transform ≡ false → (staged_rprim bits values row).matrix ≡ row.matrix
  pub visible : has bits group.Visibility ≡ false → (staged_rprim bits values row).visible ≡ row.visible
  pub purpose : has bits group.Purpose ≡ false → (staged_rprim bits values row).purpose ≡ row.purpose
  pub binding : has bits group.Binding ≡ false → (staged_rprim bits values row).binding ≡ row.binding
  pub instanced_by : has bits group.Instancer ≡ false → (staged_rprim bits values row).instanced_by ≡ row.instanced_by
  pub faces : has bits group.Topology ≡ false → (staged_rprim bits values row).faces ≡ row.faces

-- and a part of an instancer's row
pub record KeepsInstancerParts (bits : ℕ) (values : Map) (row : InstancerRow) : Type 0 where
  pub matrix : has bits group.Transform ≡ false → (staged_instancer bits values row).matrix ≡ row.matrix
  pub visible : has bits group.Visibility ≡ false → (staged_instancer bits values row).visible ≡ row.visible
  pub instanced_by : has bits group.Instancer ≡ false → (staged_instancer bits values row).instanced_by ≡ row.instanced_by
  pub positions : has bits group.Instances ≡ false → (staged_instancer bits values row).positions ≡ row.positions
  pub proto_indices : has bits group.Instances ≡ false → (staged_instancer bits values row).proto_indices ≡ row.proto_indices
  pub targets : has bits group.Instances ≡ false → (staged_instancer bits values row).targets ≡ row.targets

-- so it is of all bits, values and drawn rows
abbrev pub UnsetBitsKeepRprimParts : Type 0
UnsetBitsKeepRprimParts = (bits : ℕ) (values : Map) (row : RprimRow) → KeepsRprimParts bits values row

-- and of all instancers' rows
abbrev pub UnsetBitsKeepInstancerParts : Type 0
UnsetBitsKeepInstancerParts = (bits : ℕ) (values : Map) (row : InstancerRow) → KeepsInstancerParts bits values row

-- a camera keeps its matrix
abbrev pub UnsetBitsKeepCamera : Type 0
UnsetBitsKeepCamera = (bits : ℕ) (values : Map) (matrix : Option Rows) → has bits group.Transform ≡ false → staged bits values (Camera matrix) ≡ Camera matrix

-- and a material its color
abbrev pub UnsetBitsKeepMaterial : Type 0
UnsetBitsKeepMaterial = (bits : ℕ) (values : Map) (color : Option Rgb) → has bits group.MaterialColor ≡ false → staged bits values (Material color) ≡ Material color

-- and no buffer is wanted
abbrev pub UnsetBitsWantNothing : Type 0
UnsetBitsWantNothing = (bits : ℕ) (group : Group) (buffer : Buffer) → has bits group ≡ false → wanted bits group buffer ≡ None

-- two maps have the same values at and below the locator of a group
abbrev pub AgreeUnder : Group → Map → Map → Type 0
AgreeUnder group one other = (at : Locator) → is_prefix (locator_of_group group) at ≡ true → get one at ≡ get other at

-- two maps that agree under the groups of the bits give the same row
abbrev pub SetBitsReadTheirGroups : Type 0
SetBitsReadTheirGroups = (bits : ℕ) (one other : Map) (row : Row) → ((group : Group) → has bits group ≡ true → AgreeUnder group one other)
    → staged bits one row ≡ staged bits other row

-- and the same buffers
abbrev pub SetBitsWantTheirGroups : Type 0
SetBitsWantTheirGroups = (bits : ℕ) (one other : Map) (row : Row) → ((group : Group) → has bits group ≡ true → AgreeUnder group one other)
    → buffers_of bits one row ≡ buffers_of bits other row

-- the row of the old values, with the parts of the bits read anew, is that of the new values where the kind's other groups did not change
abbrev pub ChangedBitsReadRow : Type 0
ChangedBitsReadRow = (kind : Name) (bits : ℕ) (old new : Map) (row : Row) → contains (all_of kind) bits ≡ true
    → ((group : Group) → has (all_of kind) group ≡ true → has bits group ≡ false → AgreeUnder group old new)
    → row_read kind old ≡ Some row → Some (staged bits new row) ≡ row_read kind new

-- the slots stay
abbrev pub SlotsStay : Type 0
SlotsStay = (bits : ℕ) (values : Map) (row : Row) → slots_of (staged bits values row) ≡ slots_of row

-- and what is read does not depend on them
abbrev pub SlotsAreApart : Type 0
SlotsAreApart = (bits : ℕ) (values : Map) (row : Row) → without_slots (staged bits values row) ≡ staged bits values (without_slots row)

-- a face of n corners gives n - 2 triangles, and none below three
abbrev pub FansHaveTwoFewer : Type 0
FansHaveTwoFewer = (number : ℕ) (face : List ℤ) → length (fan number face) ≡ length face - 2

-- the triangle is one of a mesh: its face is one of the counts, and its corners are among the indices
pub record IsOfMesh (counts indices : List ℤ) (triangle : Tri) : Type 0 where
  pub face : triangle.face < length counts
  pub a : Contains indices triangle.a
  pub b : Contains indices triangle.b
  pub c : Contains indices triangle.c

-- all triangles of a mesh are such
abbrev pub TrianglesAreOfMesh : Type 0
TrianglesAreOfMesh = (counts indices : List ℤ) → All (IsOfMesh counts indices) (triangles counts indices)

-- counts that do not take all indices give no triangles
abbrev pub WrongCountsGiveNone : Type 0
WrongCountsGiveNone = (counts indices : List ℤ) → takes_all counts indices ≡ false → triangles counts indices ≡ []

-- the faces, put together, are all the indices
abbrev pub FacesAreAllIndices : Type 0
FacesAreAllIndices = (counts indices : List ℤ) → takes_all counts indices ≡ true → flat_map (λ face. face) (faces counts indices) ≡ indices

-- a row that was put at a path is the row of that path
abbrev pub PutRowIsThere : Type 0
PutRowIsThere = (path : Path) (row : Row) (rows : List PathRow) → row_of path (rows_with path row rows) ≡ Some row

-- and other paths keep theirs
abbrev pub PuttingKeepsOthers : Type 0
PuttingKeepsOthers = (path other : Path) (row : Row) (rows : List PathRow) → other ≢ path → row_of other (rows_with path row rows) ≡ row_of other rows

-- a path that was taken out has no row
abbrev pub TakenRowIsGone : Type 0
TakenRowIsGone = (path : Path) (rows : List PathRow) → row_of path (rows_without path rows) ≡ None

-- and other paths keep theirs
abbrev pub TakingKeepsOthers : Type 0
TakingKeepsOthers = (path other : Path) (rows : List PathRow) → other ≢ path → row_of other (rows_without path rows) ≡ row_of other rows

-- rows stay in path order where one is put
abbrev pub PuttingKeepsOrder : Type 0
PuttingKeepsOrder = (path : Path) (row : Row) (rows : List PathRow) → AreRows rows → AreRows (rows_with path row rows)

-- and where one is taken out
abbrev pub TakingKeepsOrder : Type 0
TakingKeepsOrder = (path : Path) (rows : List PathRow) → AreRows rows → AreRows (rows_without path rows)

-- the row with this number is the row of the path
pub record IsRowOf (path : Path) (rows : List PathRow) (i : ℕ) : Type 0 where
  pub has_path : option_map (λ r. r.path) (slice_get rows i) ≡ Some path
  pub has_row : option_map (λ r. r.row) (slice_get rows i) ≡ row_of path rows

-- the row with the number of a path is its row
abbrev pub NumbersNameRows : Type 0
NumbersNameRows = (path : Path) (rows : List PathRow) (i : ℕ) → place_of path rows ≡ Some i → IsRowOf path rows i

-- and a path without a number has no row
abbrev pub NoNumberNoRow : Type 0
NoNumberNoRow = (path : Path) (rows : List PathRow) → place_of path rows ≡ None → row_of path rows ≡ None
