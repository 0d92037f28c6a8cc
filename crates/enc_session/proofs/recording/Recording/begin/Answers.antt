use Rattle.std.proofs.Common.{refl, arith}
use Rattle.std.proofs.lemmas.Grind.{common_steps}
use Rattle.enc_session.proofs.Generations.{no_generations}
use Rattle.enc_session.proofs.recording.Recording.begin.Goals as goal

pub invariant_of-result : goal.invariant_of-result
invariant_of-result c =
    (record { room = grind (arith, common_steps); few = grind (arith, common_steps) }, rw (c.in_ok-engine.ensures, c.begin-2.ensures) no_generations, rw (c.in_ok-engine.ensures, c.new-2.ensures.items) refl)
