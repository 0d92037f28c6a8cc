use Rattle.std.proofs.Common.{◌≡◌, ◌-◌, ◌++◌, ◌≤◌, length}
use Rattle.enc_generator.specs.Generated.{turns_from, state_after}
use Rattle.enc_generator.proofs.draw.turns_from.Given as goal

-- the turns so far and those that are left, and the state behind them
abbrev pub invariant-loop-more : goal.invariant-loop-more
invariant-loop-more l = record {
  turns : l.turns ++ turns_from l.methods (l.count - l.more) l.state ≡ turns_from l.methods l.count l.fn.start;
  state : state_after (l.count - l.more) l.state ≡ state_after l.count l.fn.start;
  short : length l.turns ≡ l.more;
  few : l.more ≤ l.count;
}
