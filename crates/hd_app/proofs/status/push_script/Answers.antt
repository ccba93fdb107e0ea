use Rattle.std.proofs.Common.{append_assoc}
use Rattle.hd_app.proofs.status.push_script.Goals as goal

pub returns : goal.returns
returns c =
    rw (c.in_ok-extend_from_slice-5.ensures.items, c.in_ok-extend_from_slice-4.ensures.items, c.as_bytes-2.ensures.value, c.script_word.ensures, c.in_ok-extend_from_slice-3.ensures.items, c.in_ok-extend_from_slice-2.ensures.items, c.as_bytes.ensures.value, c.in_ok-to_string.ensures.ok, c.in_ok-extend_from_slice.ensures.items)
    (simp append_assoc)
