use Rattle.std.proofs.Common.{take}
use Rattle.enc_commands.specs.Series.{IsSeries}
use Rattle.enc_commands.proofs.commands.generate.add_lists.Given as goal

-- the deltas of the lists so far were made
abbrev pub invariant-loop-k : goal.invariant-loop-k
invariant-loop-k l = IsSeries l.out (take l.k l.lists) l.series
