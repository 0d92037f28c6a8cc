use Rattle.std.proofs.Common.{◌≡◌, map, take}
use Rattle.enc_base.specs.declared.token.Token.{Token}
use Rattle.enc_merge.proofs.pdb.rows_of.Given as goal

abbrev pub invariant-loop-k : goal.invariant-loop-k
invariant-loop-k l = l.rows.items ≡ map (λ (t : Token). t.row) (take l.k l.methods)
