use Rattle.std.proofs.Common.{◌≡◌, take, map}
use Rattle.enc_delta.specs.Members.{pair_seen}
use Rattle.enc_rules.specs.Edited.{attached_in}
use Rattle.enc_rules.proofs.rows.pairs_of.Given as goal

abbrev pub invariant-loop-k : goal.invariant-loop-k
invariant-loop-k g l = map pair_seen l.pairs.items ≡ attached_in (g.C.ChainView.chain l.chain).plain (take l.k l.edits)
