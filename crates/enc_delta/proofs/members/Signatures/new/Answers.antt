use Rattle.enc_delta.proofs.members.Signatures.new.Goals as goal

pub invariant_of-result : goal.invariant_of-result
invariant_of-result g c =
    let rows = g.R.CellView.rows c.new.result in
    let stored = g.R.CellView.stored c.new.result in
    (c.new-2.ensures rows stored, c.new-3.ensures rows stored, c.new-4.ensures rows stored)
