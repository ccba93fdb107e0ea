use Rattle.std.proofs.Common.{◌≡◌, ℕ, ◌+◌, List, [], length, slice_index_or, Some, true, false, sym, ◌∙◌, ap}
use Rattle.hd_path.proofs.NamePrefixes.{take-is_prefix, is_prefix-take}
use Rattle.hd_scene.proofs.Children.{child_name-depth, child_name-prefix, child_name-apart}
use Rattle.hd_retained.proofs.prims.name_below.Goals as goal

pub returns-then-depth : goal.returns-then-depth
returns-then-depth c = sym (child_name-depth c.args.parent.now c.args.path.now (λ e. c.if-depth.true (c.depth.ensures.names ∙ e ∙ ap (λ n. n + 1) (sym c.depth-depth.ensures.names))))

pub returns-then-not-has_prefix : goal.returns-then-not-has_prefix
returns-then-not-has_prefix c = sym (child_name-apart c.args.parent.now c.args.path.now (λ h.
    let yes : c.has_prefix.result ≡ true = c.has_prefix.ensures ∙ is_prefix-take c.args.parent.now c.args.path.now h in
    let no : c.has_prefix.result ≡ false = c.if-not-has_prefix.true in
    cc))

pub returns : goal.returns
returns c =
    let longer : length c.args.path.now ≡ length c.args.parent.now + 1 = sym c.depth.ensures.names ∙ c.if-depth.false ∙ ap (λ n. n + 1) c.depth-depth.ensures.names in
    ap (λ (n : List ℕ). Some n) (c.name.ensures ∙ ap (λ (i : ℕ). slice_index_or c.args.path.now i []) c.depth-depth.ensures.names)
    ∙ sym (child_name-prefix c.args.parent.now c.args.path.now longer (take-is_prefix c.args.parent.now c.args.path.now (sym c.has_prefix.ensures ∙ c.if-not-has_prefix.false)))
