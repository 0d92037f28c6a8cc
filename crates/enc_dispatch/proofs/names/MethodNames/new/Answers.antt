use Rattle.enc_dispatch.proofs.names.MethodNames.new.Goals as goal

pub invariant_of-result : goal.invariant_of-result
invariant_of-result g c = c.new-2.ensures (g.R.CellView.rows c.new.result) (g.R.CellView.stored c.new.result)

pub returns : goal.returns
returns g c = c.new.ensures
