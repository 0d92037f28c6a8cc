use Rattle.enc_meta.proofs.Headers.{IsRead}
use Rattle.enc_meta.proofs.streams.are_whole.Given as goal

abbrev pub invariant-loop-i : goal.invariant-loop-i
invariant-loop-i l = IsRead l.bytes l.first l.i l.at
