use Rattle.std.proofs.Common.{◌≡◌, map}
use Rattle.std.specs.Prelude.{filter, ◌==◌}
use Rattle.enc_base.specs.declared.token.Token.{Token}
use Rattle.enc_rows.specs.Sums.{below}
use Rattle.enc_base.specs.Tables as tables
use Rattle.enc_ppdb.specs.Fault.{map_token_at}
use Rattle.enc_ppdb.proofs.named.named_of.Given as goal

abbrev pub invariant-loop-n : goal.invariant-loop-n
invariant-loop-n l = l.named ≡ filter (λ (t : Token). t.table == tables.method_debug_information) (map (map_token_at l.file) (below l.n))
