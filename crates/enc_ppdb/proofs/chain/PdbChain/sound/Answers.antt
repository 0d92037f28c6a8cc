use Rattle.enc_ppdb.proofs.chain.PdbChain.sound.Goals as goal

pub returns : goal.returns
returns c = rw (← c.self.view_is) (c.self.invariant.1.sound 0)
