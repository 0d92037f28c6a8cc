use Rattle.enc_agg.specs.Seen.{users_of_all}
use Rattle.enc_agg.proofs.view.AggregateModuleView.code.Goals as goal

pub returns-clause-body : goal.returns-clause-body
returns-clause-body c = c.code_of.ensures.body (users_of_all c.args.self.now) (λ o units is. is)

pub returns-clause-texts : goal.returns-clause-texts
returns-clause-texts c = c.code_of.ensures.texts
