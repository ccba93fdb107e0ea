use Rattle.std.proofs.Common.{◌≡◌, ◌++◌, sym}
use Rattle.hd_path.specs.Texts.{names_in}
use Rattle.hd_path.proofs.Building.{IsSlashed-from_names, names_in-from_names, IsPath-append, pushed_rest, path_known}
use Rattle.std.specs.String.{string_bytes}
use Rattle.hd_path.specs.Paths.{names_text}
use Rattle.hd_path.proofs.path.Path.followed_by.Goals as goal

pub from_slashed_string-requires : goal.from_slashed_string-requires
from_slashed_string-requires c =
    IsSlashed-from_names _ (c.args.self.now ++ names_in c.args.rest.now)
    (pushed_rest c.args.self.now (names_in c.args.rest.now) c.names_text-front.result.now c.args.rest.now _ _ _ c.names_text-front.ensures.text (sym c.requires.names.same)
    c.in_ok-text.ensures.bytes c.in_ok-push_str.ensures.bytes c.in_ok-push_str-2.ensures.bytes)
    (IsPath-append c.args.self.now (names_in c.args.rest.now) c.names_text-front.ensures.path c.requires.names.path c.requires.room)

pub returns : goal.returns
returns c =
    let text : string_bytes c.push_str-2.new.self ≡ names_text (c.args.self.now ++ names_in c.args.rest.now) =
    pushed_rest c.args.self.now (names_in c.args.rest.now) c.names_text-front.result.now c.args.rest.now _ _ _ c.names_text-front.ensures.text (sym c.requires.names.same)
    c.in_ok-text.ensures.bytes c.in_ok-push_str.ensures.bytes c.in_ok-push_str-2.ensures.bytes in
    path_known c.from_slashed_string.result (string_bytes c.push_str-2.new.self) (c.args.self.now ++ names_in c.args.rest.now) c.from_slashed_string.ensures
    (names_in-from_names _ _ text (IsPath-append c.args.self.now (names_in c.args.rest.now) c.names_text-front.ensures.path c.requires.names.path c.requires.room))
