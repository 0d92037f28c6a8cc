use Rattle.std.proofs.Common.{◌≡◌, take}
use Rattle.enc_meta.specs.Built.{none_from}
use Rattle.enc_meta.specs.Joined.{joined_lengths}
use Rattle.enc_rules.specs.Known.{listed_rows}
use Rattle.enc_rules.specs.Rules.{with_edits}
use Rattle.enc_rules.proofs.heaps.heaps_of.Given as goal

abbrev pub invariant-loop-k : goal.invariant-loop-k
invariant-loop-k g l = l.heaps ≡ with_edits (listed_rows l.context) (none_from (joined_lengths l.context.chain.heaps)) (take l.k l.edits)
