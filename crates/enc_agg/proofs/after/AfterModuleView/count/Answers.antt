use Rattle.enc_agg.proofs.Next.{next_count, next_few}
use Rattle.enc_agg.proofs.after.AfterModuleView.count.Goals as goal

pub returns-clause-count : goal.returns-clause-count
returns-clause-count c = rw (← c.self.view_is)
    (next_count c.self.inside.aggregate.now c.self.inside.ready.now c.args.table _ c.self.invariant c.count_of.ensures)

pub returns-clause-few : goal.returns-clause-few
returns-clause-few c = next_few c.self.inside.aggregate.now c.self.inside.ready.now c.args.table _ c.self.invariant c.count_of.ensures
