use Rattle.std.proofs.Common.{◌-◌, ◌≤◌, length}
use Rattle.enc_plain.specs.Module.{kids_of}
use Rattle.enc_agg.specs.Seen.{module_of_all}
use Rattle.enc_agg.proofs.earlier.Earlier.count_kids.Given as goal

-- the children that were there are no fewer than those in front, and no more than those up to the part behind
abbrev pub invariant-loop-low : goal.invariant-loop-low
invariant-loop-low l = record {
  low : l.low ≤ length (kids_of (module_of_all l.self) l.owner l.table);
  high : length (kids_of (module_of_all l.self) l.owner l.table) ≤ l.high;
  within : l.high ≤ l.all;
}

abbrev pub decreases-loop-low : goal.decreases-loop-low
decreases-loop-low l = l.high - l.low
