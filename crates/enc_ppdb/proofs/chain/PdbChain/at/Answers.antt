use Rattle.std.specs.Prelude.{vec_capacity, vec_len}
use Rattle.enc_ppdb.specs.PlacedAt.{room_for}
use Rattle.enc_ppdb.proofs.KnownFiles.{earlier_is}
use Rattle.enc_ppdb.proofs.Tellers.{whole_first}
use Rattle.enc_ppdb.proofs.chain.PdbChain.at.Goals as goal

pub returns : goal.returns
returns c = rw (← c.self.view_is, c.deref.ensures.value) (earlier_is c.self.inside.base c.self.inside.added.items c.args.generation (room_for (vec_capacity c.self.inside.added) (vec_len c.self.inside.added)))

pub invariant_of-result : goal.invariant_of-result
invariant_of-result c = rw c.deref.ensures.value (whole_first c.self.inside.base c.self.inside.added.items c.args.generation c.self.inside.places c.self.invariant.0 c.self.invariant.1)
