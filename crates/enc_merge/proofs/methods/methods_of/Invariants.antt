use Rattle.std.proofs.Common.{◌≡◌, take}
use Rattle.enc_base.specs.Tables as tables
use Rattle.enc_delta.specs.Delta.{of_table}
use Rattle.enc_merge.specs.Writing.{tokens_of}
use Rattle.enc_merge.proofs.methods.methods_of.Given as goal

abbrev pub invariant-loop-k : goal.invariant-loop-k
invariant-loop-k l = l.methods.items ≡ of_table tables.method_def (tokens_of (take l.k l.numbers))
