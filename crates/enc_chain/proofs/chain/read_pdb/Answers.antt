use Rattle.std.proofs.Common.{subst, ℕ}
use Rattle.enc_image.specs.Base.{chain_of_base}
use Rattle.enc_ppdb.specs.Fault.{pdb_of}
use Rattle.enc_ppdb.specs.Seen.{ReadsPdb}
use Rattle.enc_chain.proofs.chain.read_pdb.Goals as goal

pub returns : goal.returns
unfolding chain_of_base
returns c = subst (λ (n : ℕ). ReadsPdb c.read.result (pdb_of c.args.bytes.items n)) c.count.ensures.count c.read.ensures
