use Rattle.std.proofs.Common.{arith, take}
use Rattle.std.proofs.lemmas.List.{length-take}
use Rattle.enc_watch.proofs.Counted.{hits_at_most}
use Rattle.enc_watch.proofs.hits.LineHits.of.Goals as goal

pub hear-requires : goal.hear-requires
hear-requires c = λ at.
    let few = hits_at_most at (take c.loop-event.event-index c.args.heard.now) in
    let taken = length-take c.loop-event.event-index c.args.heard.now in
    rw c.loop-event.invariant (omega (arith, few, taken))
