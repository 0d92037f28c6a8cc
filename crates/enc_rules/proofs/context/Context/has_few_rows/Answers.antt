use Rattle.enc_rules.proofs.context.Context.has_few_rows.Goals as goal

pub returns : goal.returns
returns g c = record { few = rw (← c.self.view_is) c.self.invariant.0.few }
