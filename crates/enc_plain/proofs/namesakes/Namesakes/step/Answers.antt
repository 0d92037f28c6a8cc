use Rattle.std.proofs.Common.{◌∙◌}
use Rattle.enc_plain.proofs.namesakes.Namesakes.step.Goals as goal

pub returns-clause-names : goal.returns-clause-names
returns-clause-names c = λ rows are. are c.args.row c.in_ok-next.next c.in_ok-next.ensures.next ∙ are c.in_ok-next.next c.in-Some.end c.in-Some.ensures.next

pub returns-clause-known : goal.returns-clause-known
returns-clause-known c = λ rows are. c.lead.ensures rows are (are c.args.row c.in_ok-next.next c.in_ok-next.ensures.next ∙ are c.in_ok-next.next c.in-Some.end c.in-Some.ensures.next)
