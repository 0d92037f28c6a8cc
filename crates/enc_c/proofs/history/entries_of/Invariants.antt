use Rattle.std.proofs.Common.{◌≡◌, map, take}
use Rattle.enc_c.specs.History.{before_generation, entry_by_numbers}
use Rattle.enc_c.proofs.history.entries_of.Given as goal

abbrev pub invariant-loop-i : goal.invariant-loop-i
invariant-loop-i l = l.entries.items ≡ map (entry_by_numbers (before_generation l.agg.base l.agg.deltas l.generation)) (take l.i l.tokens)
