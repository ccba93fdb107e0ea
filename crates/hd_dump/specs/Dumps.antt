-- The dump of some rows.
use Rattle.std.specs.Prelude.{ℕ, List, ◌++◌, length, Option, None, codes, decimal, slice_index_or}
use Rattle.std.specs.List.{enumerate_from, flat_map}
use Rattle.hd_rprim.specs.declared.buffer.Buffer.{Buffer}
use Rattle.hd_rprim.specs.Shown.{ShownRow}
use Rattle.hd_dump.specs.Contents.{same, uses, distinct, number_in, users_in}
use Rattle.hd_dump.specs.Lines.{row_line, entry_line}

-- the number of a row's points, triangles or colors, which are its contents 0, 1 and 2
abbrev pub number_at : List Buffer → ShownRow → (place : ℕ) → Option ℕ
number_at contents r place = number_in same contents (slice_index_or r.contents place None)

-- the line of a row
abbrev pub line_of : List Buffer → ShownRow → List ℕ
line_of contents r = row_line r.path r.row (number_at contents r 0) (number_at contents r 1) (number_at contents r 2)

-- the counts of rows and of contents
abbrev pub head_line : (rows contents : ℕ) → List ℕ
head_line rows contents = codes "dump " ++ decimal rows ++ codes " " ++ decimal contents ++ codes "\n"

-- the counts, a line for each row, and a line for each content
unfoldable pub dump_text : List ShownRow → List ℕ
dump_text rows =
    let used = uses rows in
    let contents = distinct same used in
    head_line (length rows) (length contents)
    ++ flat_map (line_of contents) rows
    ++ flat_map (λ e. entry_line e.0 e.1 (users_in same used e.1)) (enumerate_from 0 contents)
