use Rattle.enc_compact.proofs.SeenMoved.{kid_there, kid_seen, kid_table}
use Rattle.enc_compact.proofs.module.MovedModuleModuleView.kid.Goals as goal

pub kid-requires-clause-there : goal.kid-requires-clause-there
kid-requires-clause-there g c =
    rw (c.lent.ensures.lent, c.old.ensures.old)
    (kid_there (g.V.ModuleView.meaning c.args.self.now) c.args.owner c.args.table c.args.i c.lent.ensures.sound c.requires.there)

pub returns-clause-table : goal.returns-clause-table
returns-clause-table g c =
    kid_table (g.V.ModuleView.meaning c.args.self.now) c.kid.result c.moved.result c.args.table c.kid.ensures.table c.moved.ensures.moved

pub returns-clause-row : goal.returns-clause-row
returns-clause-row g c =
    kid_seen (g.V.ModuleView.meaning c.args.self.now) c.args.owner c.kid.result c.moved.result c.args.table c.args.i c.lent.ensures.sound
    (rw (c.lent.ensures.lent, c.old.ensures.old) at c.kid.ensures.row) c.kid.ensures.table c.moved.ensures.moved
