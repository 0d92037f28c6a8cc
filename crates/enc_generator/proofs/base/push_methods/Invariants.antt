use Rattle.std.proofs.Common.{◌≡◌, ◌-◌, ◌++◌, map}
use Rattle.std.specs.List.{range_with_len}
use Rattle.enc_rows.specs.Sums.{below}
use Rattle.enc_generator.specs.Generated.{base_method}
use Rattle.enc_generator.proofs.base.push_methods.Given as goal

-- the methods so far, and those that are left
abbrev pub invariant-loop-k : goal.invariant-loop-k
invariant-loop-k l = l.edits ++ map base_method (range_with_len l.k (l.count - l.k)) ≡ l.fn.edits ++ map base_method (below l.count)
