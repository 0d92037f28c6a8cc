use Rattle.enc_commands.proofs.Served.{if_some}
use Rattle.enc_commands.proofs.commands.apply.apply.Goals as goal

pub returns-clause-plan : goal.returns-clause-plan
returns-clause-plan g c = if_some (g.S.Store.told c.args.store.now) _ _ c.in_ok-judged.ensures.step (λ files is. rw is c.rewritten.ensures.plan)
