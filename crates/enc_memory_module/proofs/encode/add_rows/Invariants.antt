use Rattle.std.proofs.Common.{◌≡◌, drop}
use Rattle.enc_rewriter.specs.Values.{with_all}
use Rattle.enc_rewriter.specs.declared.pass.Pass.TheVariants.{Users}
use Rattle.enc_memory_module.specs.Encoded.{users_of_rows}
use Rattle.enc_memory_module.proofs.encode.add_rows.Given as goal

abbrev pub invariant-loop-k : goal.invariant-loop-k
invariant-loop-k l = with_all Users l.heaps (users_of_rows (drop l.k l.rows)) ≡ with_all Users l.fn.heaps (users_of_rows l.rows)
