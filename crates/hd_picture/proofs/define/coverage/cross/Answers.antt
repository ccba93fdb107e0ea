use Rattle.hd_picture.proofs.CrossProduct.{cross_fits, cross_is, cross_small}
use Rattle.hd_picture.proofs.define.coverage.cross.Goals as goal

pub overflow_sub-result : goal.overflow_sub-result
overflow_sub-result c =
    cross_fits c.args.edge_x c.args.edge_y c.args.offset_x c.args.offset_y c.requires.edge_x c.requires.edge_y c.requires.offset_x c.requires.offset_y

pub returns-clause-value : goal.returns-clause-value
returns-clause-value c =
    cross_is c.args.edge_x c.args.edge_y c.args.offset_x c.args.offset_y c.requires.edge_x c.requires.edge_y c.requires.offset_x c.requires.offset_y

pub returns-clause-small : goal.returns-clause-small
returns-clause-small c =
    cross_small c.args.edge_x c.args.edge_y c.args.offset_x c.args.offset_y c.requires.edge_x c.requires.edge_y c.requires.offset_x c.requires.offset_y
