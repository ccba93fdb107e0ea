use Rattle.std.proofs.Common.{◌≡◌, ◌+◌, ◌-◌, length, take, ap, ◌∙◌, arith}
use Rattle.hd_path.specs.Paths.{names_text}
use Rattle.hd_path.proofs.Building.{last_name_begins, cut_at, take-last, IsPath-take, front_part}
use Rattle.hd_path.proofs.path.Path.slashed_parent.Goals as goal

-- where the last name begins
start_is : (c : goal.After-last_name_start-start) → c.last_name_start-start.result ≡ length (names_text (take (length c.args.self.now - 1) c.args.self.now)) + 1
start_is c =
    last_name_begins c.as_bytes.result.now c.args.self.now c.last_name_start-start.result (c.as_bytes.ensures.value ∙ c.names_text-text.ensures.text) c.names_text-text.ensures.path
    c.requires c.last_name_start-start.ensures.within c.last_name_start-start.ensures.slash c.last_name_start-start.ensures.after

pub overflow_sub-start : goal.overflow_sub-start
overflow_sub-start c = let s = start_is c in omega arith

pub range-requires-clause-end_boundary : goal.range-requires-clause-end_boundary
range-requires-clause-end_boundary c =
    cut_at c.names_text-text.result.now c.args.self.now (c.last_name_start-start.result - 1) c.names_text-text.ensures.text c.names_text-text.ensures.path
    (omega (arith, c.last_name_start-start.ensures.within, ap length c.as_bytes.ensures.value))

pub returns-clause-text : goal.returns-clause-text
returns-clause-text c =
    c.range.ensures.value ∙ front_part (c.last_name_start-start.result - 1) c.names_text-text.result.now
    ∙ take-last c.names_text-text.result.now c.args.self.now c.last_name_start-start.result c.names_text-text.ensures.text c.requires
    (last_name_begins c.as_bytes.result.now c.args.self.now c.last_name_start-start.result (c.as_bytes.ensures.value ∙ c.names_text-text.ensures.text) c.names_text-text.ensures.path
    c.requires c.last_name_start-start.ensures.within c.last_name_start-start.ensures.slash c.last_name_start-start.ensures.after)

pub returns-clause-path : goal.returns-clause-path
returns-clause-path c = IsPath-take (length c.args.self.now - 1) c.args.self.now c.names_text-text.ensures.path
