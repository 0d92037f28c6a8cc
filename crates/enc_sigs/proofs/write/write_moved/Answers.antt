use Rattle.enc_sigs.proofs.MovedInTable.{moved_is_spelled}
use Rattle.enc_sigs.proofs.write.write_moved.Goals as goal

pub returns-clause-back : goal.returns-clause-back
returns-clause-back g c = λ f h stays.
    let laws = c.written_laws.ensures in
    let front = c.sig.inside.front in
    rw (← c.sig.view_is) (moved_is_spelled laws.back laws.signed_back f front c.sig.invariant (rw (← c.sig.view_is) at stays))
