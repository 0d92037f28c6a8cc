use Rattle.std.proofs.Common.{refl, sym, ◌∙◌, arith}
use Rattle.enc_base.proofs.First.{first_found}
use Rattle.enc_ppdb.specs.Fault.{documents_fault}
use Rattle.enc_ppdb.proofs.fault.documents_fault.Goals as goal

pub returns-in-Some : goal.returns-in-Some
unfolding documents_fault
returns-in-Some c = first_found _ _ c.loop-n.n _ (omega (arith, c.count-n-end.ensures.count, c.loop-n-test.true)) c.loop-n.invariant (sym c.in-Some.is ∙ c.document_fault.ensures) refl
