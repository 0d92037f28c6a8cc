use Rattle.std.proofs.Common.{arith}
use Rattle.std.specs.Prelude.{vec_len, vec_capacity}
use Rattle.std.proofs.lemmas.Bool.Decides.{nat_tests}
use Rattle.enc_ppdb.proofs.PlacedFiles.{room_when, room_kept}
use Rattle.enc_ppdb.proofs.chain.PdbChain.reserve.Goals as goal

pub returns-clause-room : goal.returns-clause-room
returns-clause-room c = room_when c.reserve.result (vec_capacity c.reserve.new.self) (vec_len c.reserve.new.self) (grind (arith, nat_tests, c.if-len-ge-MOST.false, c.len.ensures, c.reserve.ensures.len)) c.reserve.ensures.ok

pub returns-clause-kept : goal.returns-clause-kept
returns-clause-kept c = rw (← c.self.view_is, c.reserve.ensures.len) (room_kept (vec_capacity c.self.inside.added) (vec_capacity c.reserve.new.self) (vec_len c.self.inside.added) c.reserve.ensures.capacity)
