use Rattle.std.proofs.Common.{◌≡◌, [], ◌∷◌, ◌++◌, arith}
use Rattle.hd_path.proofs.Building.{IsSlashed-from_names, names_in-from_names, IsPath-push, pushed_name, path_known}
use Rattle.std.specs.String.{string_bytes}
use Rattle.hd_path.specs.Paths.{names_text}
use Rattle.hd_path.proofs.path.Path.with_name.Goals as goal

pub from_slashed_string-requires : goal.from_slashed_string-requires
from_slashed_string-requires c =
    IsSlashed-from_names _ (c.args.self.now ++ c.args.name.now ∷ [])
    (pushed_name c.args.self.now c.names_text-parent.result.now c.args.name.now _ _ _ _ _ c.names_text-parent.ensures.text c.in_ok-text.ensures.bytes c.in_ok-push_str.ensures.bytes
    (c.in_ok-push.ensures.ascii (omega arith)) c.in_ok-push.ensures.bytes c.in_ok-push_str-2.ensures.bytes)
    (IsPath-push c.args.self.now c.args.name.now c.names_text-parent.ensures.path c.requires.name c.requires.room)

pub returns : goal.returns
returns c =
    let text : string_bytes c.push_str-2.new.self ≡ names_text (c.args.self.now ++ c.args.name.now ∷ []) =
    pushed_name c.args.self.now c.names_text-parent.result.now c.args.name.now _ _ _ _ _ c.names_text-parent.ensures.text c.in_ok-text.ensures.bytes c.in_ok-push_str.ensures.bytes
    (c.in_ok-push.ensures.ascii (omega arith)) c.in_ok-push.ensures.bytes c.in_ok-push_str-2.ensures.bytes in
    path_known c.from_slashed_string.result (string_bytes c.push_str-2.new.self) (c.args.self.now ++ c.args.name.now ∷ []) c.from_slashed_string.ensures
    (names_in-from_names _ _ text (IsPath-push c.args.self.now c.args.name.now c.names_text-parent.ensures.path c.requires.name c.requires.room))
