use Rattle.std.proofs.Common.{◌≡◌, ◌-◌, length}
use Rattle.enc_seqpoints.specs.Grammar.{records_in}
use Rattle.enc_seqpoints.specs.Reads.{points_behind}
use Rattle.enc_seqpoints.proofs.read.records.Given as goal

abbrev pub invariant-loop-i : goal.invariant-loop-i
invariant-loop-i l = records_in (length l.fn.bytes) l.fn.base l.fn.bytes ≡ points_behind l.points.items (records_in (length l.fn.bytes - l.i) l.base l.rest)
