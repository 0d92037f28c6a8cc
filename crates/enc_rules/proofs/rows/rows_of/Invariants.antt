use Rattle.std.proofs.Common.{◌≡◌, take}
use Rattle.enc_rules.specs.Edited.{rows_edited}
use Rattle.enc_rules.proofs.rows.rows_of.Given as goal

abbrev pub invariant-loop-k : goal.invariant-loop-k
invariant-loop-k g l = l.rows.items ≡ rows_edited (g.C.ChainView.chain l.chain).plain (take l.k l.added)
