use Rattle.std.proofs.Common.{◌≡◌, take}
use Rattle.hd_scene.proofs.notices.Notices.copy.Given as goal

abbrev pub invariant-loop-notice : goal.invariant-loop-notice
invariant-loop-notice l = l.items.items ≡ take l.notice-index l.self
