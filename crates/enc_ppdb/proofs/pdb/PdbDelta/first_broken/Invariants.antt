use Rattle.std.proofs.Common.{◌≡◌, take}
use Rattle.enc_base.specs.declared.token.Token.{Token}
use Rattle.enc_ppdb.specs.Fault.{named_tokens}
use Rattle.enc_ppdb.specs.Misplaced.{misplaced_row, least_below}
use Rattle.enc_ppdb.specs.Seen.{end_by}
use Rattle.enc_ppdb.proofs.pdb.PdbDelta.first_broken.Given as goal

abbrev pub invariant-loop-k : goal.invariant-loop-k
invariant-loop-k l = record {
  least : l.least ≡ least_below (misplaced_row l.self l.sizes) l.k;
  bound : l.bound ≡ end_by (λ (t : Token). t.row) (take l.k (named_tokens l.self));
}
