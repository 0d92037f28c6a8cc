use Rattle.enc_commands.proofs.commands.write.of_text.Goals as goal

pub returns-clause-plan : goal.returns-clause-plan
returns-clause-plan c = rw (rw c.deref.ensures.value at c.in_ok-list.ensures.step) c.written.ensures.plan
