use Rattle.hd_picture.specs.define.View.{screen_point}
use Rattle.hd_picture.proofs.EdgeCoverage.{covers_edge}
use Rattle.hd_picture.proofs.laws.edges_are_covered.Goals as goal

pub returns : goal.returns
returns c = λ eye q tri apart on_edge h. covers_edge (screen_point eye tri.a) (screen_point eye tri.b) (screen_point eye tri.c) q on_edge apart h
