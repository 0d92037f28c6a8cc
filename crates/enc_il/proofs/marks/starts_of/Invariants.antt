use Rattle.std.proofs.Common.{◌≡◌, ◌-◌, length}
use Rattle.enc_il.proofs.Starts.{AreMarked}
use Rattle.enc_il.proofs.marks.starts_of.Given as goal

abbrev pub invariant-loop-end : goal.invariant-loop-end
invariant-loop-end l = record {
  many : length l.marks.items ≡ length l.code.code.now;
  marked : AreMarked l.code.code.now l.at l.marks.items;
}

abbrev pub decreases-loop-end : goal.decreases-loop-end
decreases-loop-end l = length l.code.code.now - l.at
