use Rattle.std.proofs.Common.{◌≡◌, take}
use Rattle.std.specs.Prelude.{◌==◌, filter}
use Rattle.enc_delta.specs.declared.pairs.Pair.{Pair}
use Rattle.enc_rules.proofs.members.pairs_in.Given as goal

abbrev pub invariant-loop-k : goal.invariant-loop-k
invariant-loop-k l = l.chosen.items ≡ filter (λ (p : Pair). p.child.table == l.table) (take l.k l.pairs)
