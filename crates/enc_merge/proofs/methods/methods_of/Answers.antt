use Rattle.std.proofs.Common.{List, ◌∙◌, ap, arith}
use Rattle.std.specs.Prelude.{ℕ}
use Rattle.enc_base.specs.Tables as tables
use Rattle.enc_delta.specs.Delta.{of_table}
use Rattle.enc_ppdb.proofs.DocumentsUpto.{take_ended}
use Rattle.enc_merge.specs.Writing.{tokens_of}
use Rattle.enc_merge.proofs.MethodsOfBoth.{methods_are}
use Rattle.enc_merge.proofs.methods.methods_of.Goals as goal

pub returns : goal.returns
returns c =
    let numbers = c.args.numbers.now in
    c.loop-k.invariant ∙ ap (λ (ns : List ℕ). of_table tables.method_def (tokens_of ns)) (take_ended numbers c.loop-k.k (omega (arith, c.loop-k-test.false)))
    ∙ methods_are c.aggregate.result.now c.args.last.now numbers c.aggregate.ensures c.requires
