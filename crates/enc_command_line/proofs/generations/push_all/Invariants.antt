use Rattle.std.proofs.Common.{◌≡◌, ◌++◌, ◌-◌, ◌≤◌, drop, length}
use Rattle.enc_command_line.specs.Listing.{lines_upto}
use Rattle.enc_command_line.proofs.generations.push_all.Given as goal

-- the lines of the generations so far are appended
abbrev pub invariant-loop-g : goal.invariant-loop-g
invariant-loop-g l = (1 ≤ l.g) × (l.out.items ≡ l.fn.out.items ++ lines_upto l.agg.base l.agg.deltas (drop (length l.agg.deltas - (l.g - 1)) l.agg.deltas))
