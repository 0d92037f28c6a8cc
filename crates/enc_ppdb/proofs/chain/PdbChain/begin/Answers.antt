use Rattle.std.proofs.Common.{arith}
use Rattle.enc_ppdb.specs.PdbChain.{pdb_with}
use Rattle.enc_ppdb.proofs.Tellers.{whole_begun}
use Rattle.enc_ppdb.proofs.chain.PdbChain.begin.Goals as goal

pub invariant_of-result : goal.invariant_of-result
unfolding pdb_with
invariant_of-result c = (rw (c.new.ensures.items) (omega arith), rw (c.new.ensures.items) (whole_begun c.args.pdb c.new-2.result c.base_is_sound.ensures c.new-2.ensures.counts))
