use Rattle.std.proofs.Common.{◌≡◌, drop}
use Rattle.enc_session.specs.RecordingSeen.{brought_in}
use Rattle.enc_session.proofs.newest.Newest.bring.Given as goal

abbrev pub invariant-loop-i : goal.invariant-loop-i
invariant-loop-i l = brought_in l.fn.generation (drop l.i l.fn.methods) l.self ≡ brought_in l.fn.generation l.fn.methods l.fn.self
