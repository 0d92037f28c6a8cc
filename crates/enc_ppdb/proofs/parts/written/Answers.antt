use Rattle.std.proofs.Common.{◌≡◌, ◌+◌, subst, arith}
use Rattle.std.specs.Prelude.{nat_lt}
use Rattle.std.proofs.lemmas.Bool.Decides.{nat_tests}
use Rattle.enc_ppdb.specs.Written.{documents_of, pdb_weight, most_pdb_weight}
use Rattle.enc_ppdb.specs.Holding.{pdb_weight_of, IsWritten}
use Rattle.enc_ppdb.proofs.ValuesAdded.{refused_so}
use Rattle.enc_ppdb.proofs.MethodsHeld.{none_written, weight_past}
use Rattle.enc_ppdb.proofs.parts.written.Goals as goal

pub loop-n-init : goal.loop-n-init
loop-n-init g c =
    none_written (g.P.PointSource.debug c.args.source.now) (g.P.PointSource.placed c.args.source.now) c.in_ok-writer.writer c.in_ok-writer.ensures.heaps c.in_ok-writer.ensures.starts c.in_ok-writer.ensures.texts c.in_ok-writer.ensures.users
    c.in_ok-writer.ensures.tables c.in_ok-writer.ensures.by_value c.in_ok-writer.ensures.places c.in_ok-writer.ensures.weight

pub returns-in-Err-clause-refused : goal.returns-in-Err-clause-refused
returns-in-Err-clause-refused g c =
    let p = g.P.PointSource.debug c.args.source.now in
    let n = c.loop-n.n in
    refused_so c.in-Err.fault (nat_lt most_pdb_weight (pdb_weight_of p (n + 1) (documents_of p (n + 1)))) (nat_lt most_pdb_weight (pdb_weight p c.args.methods))
    (weight_past p (n + 1) c.args.methods (grind (arith, nat_tests, c.loop-n-test.true))) c.in-Err.ensures.refused

pub returns-clause-so_far : goal.returns-clause-so_far
returns-clause-so_far g c =
    let p = g.P.PointSource.debug c.args.source.now in
    let e : c.loop-n.n ≡ c.args.methods = grind (arith, nat_tests, c.loop-n-test.false, c.loop-n.auto.n-end) in
    subst (λ k. IsWritten p k k 0 (g.P.PointSource.placed c.args.source.now) (documents_of p k) c.loop-n.writer) e c.loop-n.invariant
