use Rattle.hd_picture.proofs.TileLemmas.{IsLeastOf}
use Rattle.hd_picture.proofs.raster.depth_buffer.min_depth_of.Given as goal

-- the least depth of the fragments so far
abbrev pub invariant-loop-held : goal.invariant-loop-held
invariant-loop-held l = IsLeastOf l.depth_buffer l.held-index l.least
