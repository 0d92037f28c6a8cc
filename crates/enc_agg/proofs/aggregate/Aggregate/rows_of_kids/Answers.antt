use Rattle.enc_agg.proofs.Directories.{base_kids}
use Rattle.enc_agg.proofs.aggregate.Aggregate.rows_of_kids.Goals as goal

pub returns : goal.returns
returns c = rw (← c.self.view_is)
    (base_kids c.self.inside.image _ c.self.inside.directory _ c.args.owner c.args.table _ _ c.self.invariant c.requires.table c.requires.owners
    c.in_ok-rows.ensures c.in_ok-push_kids.ensures)
