use Rattle.std.proofs.Common.{◌≡◌, drop}
use Rattle.enc_seqpoints.specs.Spelling.{preceded, records_of}
use Rattle.enc_seqpoints.proofs.write.write_records.Given as goal

abbrev pub invariant-loop-i : goal.invariant-loop-i
invariant-loop-i l = preceded 0 l.fn.out.items (records_of l.fn.base l.fn.points) ≡ preceded l.i l.out.items (records_of l.base (drop l.i l.fn.points))
