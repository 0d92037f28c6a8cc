use Rattle.enc_ppdb.proofs.Rows.{read_there}
use Rattle.enc_ppdb.proofs.pdb.PdbDelta.points.Goals as goal

pub returns-clause-there : goal.returns-clause-there
returns-clause-there c = rw (← c.self.view_is) (read_there c.points_of.result c.self.inside.file c.args.method c.in-Some.row c.self.invariant.good (rw (← c.self.view_is) at c.in-Some.ensures) c.points_of.ensures)
