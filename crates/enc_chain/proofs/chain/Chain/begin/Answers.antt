use Rattle.enc_chain.proofs.Chains.{begun_knows}
use Rattle.enc_chain.proofs.chain.Chain.begin.Goals as goal

pub invariant_of-result : goal.invariant_of-result
invariant_of-result c = begun_knows c.in_ok-joined.joined c.args.image c.args.pdb c.in_ok-joined.ensures c.requires
