use Rattle.std.proofs.Common.{◌≡◌, max, drop}
use Rattle.enc_session.specs.RecordingSeen.{greatest_row}
use Rattle.enc_session.proofs.newest.greatest_row.Given as goal

abbrev pub invariant-loop-i : goal.invariant-loop-i
invariant-loop-i l = max l.greatest (greatest_row (drop l.i l.fn.methods)) ≡ greatest_row l.fn.methods
