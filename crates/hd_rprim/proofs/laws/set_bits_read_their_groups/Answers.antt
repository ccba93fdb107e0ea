use Rattle.hd_rprim.proofs.ReadParts.{set_bits_read_their_groups, set_bits_want_their_groups}
use Rattle.hd_rprim.proofs.laws.set_bits_read_their_groups.Goals as goal

pub returns-clause-row : goal.returns-clause-row
returns-clause-row c = set_bits_read_their_groups

pub returns-clause-buffers : goal.returns-clause-buffers
returns-clause-buffers c = set_bits_want_their_groups
