use Rattle.std.proofs.Common.{ℕ, ◌+◌, List, length, take, drop, ap, ◌∙◌, arith}
use Rattle.hd_path.specs.Names.{identifier_len}
use Rattle.hd_path.specs.Paths.{Path, names_text}
use Rattle.hd_path.proofs.Building.{begins_name, IsSlashed-from_names, names_in-from_names, cut_at, part_is}
use Rattle.hd_path.proofs.path.Path.name.Goals as goal

pub name_start-start-requires-clause-names : goal.name_start-start-requires-clause-names
name_start-start-requires-clause-names c =
    IsSlashed-from_names c.as_bytes.result.now c.args.self.now (c.as_bytes.ensures.value ∙ c.names_text-text.ensures.text) c.names_text-text.ensures.path

pub name_start-start-requires-clause-in_range : goal.name_start-start-requires-clause-in_range
name_start-start-requires-clause-in_range c =
    rw (names_in-from_names c.as_bytes.result.now c.args.self.now (c.as_bytes.ensures.value ∙ c.names_text-text.ensures.text) c.names_text-text.ensures.path) c.requires

pub identifier_len_at-len-requires : goal.identifier_len_at-len-requires
identifier_len_at-len-requires c =
    let n = names_in-from_names c.as_bytes.result.now c.args.self.now (c.as_bytes.ensures.value ∙ c.names_text-text.ensures.text) c.names_text-text.ensures.path in
    let s = c.name_start-start.ensures ∙ ap (λ (names : Path). length (names_text (take c.args.i names)) + 1) n in
    let b = begins_name c.as_bytes-2.result.now c.args.self.now c.args.i c.name_start-start.result (c.as_bytes-2.ensures.value ∙ c.names_text-text.ensures.text) c.names_text-text.ensures.path c.requires s in
    omega (arith, b.within)

pub range-requires-clause-start_boundary : goal.range-requires-clause-start_boundary
range-requires-clause-start_boundary c = λ _. cut_at c.names_text-text.result.now c.args.self.now _ c.names_text-text.ensures.text c.names_text-text.ensures.path
    (omega (arith, c.identifier_len_at-len.ensures.within, ap length c.as_bytes-2.ensures.value))

pub range-requires-clause-end_boundary : goal.range-requires-clause-end_boundary
range-requires-clause-end_boundary c = cut_at c.names_text-text.result.now c.args.self.now _ c.names_text-text.ensures.text c.names_text-text.ensures.path
    (omega (arith, c.identifier_len_at-len.ensures.within, ap length c.as_bytes-2.ensures.value))

pub returns : goal.returns
returns c =
    let text = c.names_text-text.result.now in
    let start = c.name_start-start.result in
    let n = names_in-from_names c.as_bytes.result.now c.args.self.now (c.as_bytes.ensures.value ∙ c.names_text-text.ensures.text) c.names_text-text.ensures.path in
    let s = c.name_start-start.ensures ∙ ap (λ (names : Path). length (names_text (take c.args.i names)) + 1) n in
    let b = begins_name text c.args.self.now c.args.i start c.names_text-text.ensures.text c.names_text-text.ensures.path c.requires s in
    let len = c.identifier_len_at-len.ensures.len ∙ ap (λ (t : List ℕ). identifier_len (drop start t)) c.as_bytes-2.ensures.value ∙ b.len in
    c.range.ensures.value ∙ part_is text _ _ start c.identifier_len_at-len.result b.rest len
