use Rattle.hd_index.proofs.Sharing.{users_are_uses, buffers_are_kept}
use Rattle.hd_index.proofs.laws.rows_share_buffers.Goals as goal

pub returns-clause-users : goal.returns-clause-users
returns-clause-users c = users_are_uses

pub returns-clause-kept : goal.returns-clause-kept
returns-clause-kept c = buffers_are_kept
