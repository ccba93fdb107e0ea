use Rattle.hd_rprim.proofs.FanTriangles.{fans_have_two_fewer, triangles_are_of_mesh}
use Rattle.hd_rprim.proofs.laws.faces_are_fans.Goals as goal

pub returns-clause-two_fewer : goal.returns-clause-two_fewer
returns-clause-two_fewer c = fans_have_two_fewer

pub returns-clause-of_mesh : goal.returns-clause-of_mesh
returns-clause-of_mesh c = triangles_are_of_mesh
