use Rattle.std.proofs.Common.{◌≡◌, drop}
use Rattle.enc_rewriter.specs.Values.{with_all}
use Rattle.enc_rewriter.specs.declared.pass.Pass.TheVariants.{Users}
use Rattle.enc_memory_module.proofs.Gathering.{named_in}
use Rattle.enc_memory_module.proofs.encode.add_code.Given as goal

abbrev pub invariant-loop-k : goal.invariant-loop-k
invariant-loop-k l = with_all Users l.heaps (named_in (drop l.k l.code)) ≡ with_all Users l.fn.heaps (named_in l.code)
