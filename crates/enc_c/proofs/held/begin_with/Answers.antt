use Rattle.enc_c.proofs.held.begin_with.Goals as goal

pub begin-requires : goal.begin-requires
begin-requires c = c.within_law.ensures.base.1 _

pub begin-requires-2 : goal.begin-requires-2
begin-requires-2 c = c.within_law.ensures.base.0 c.args.image c.in-Some.bytes.items c.in_ok-pdb.pdb c.in_ok-pdb.ensures
