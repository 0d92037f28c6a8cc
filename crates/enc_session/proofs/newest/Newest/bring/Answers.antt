use Rattle.std.proofs.Common.{sym, ap, ◌∙◌}
use Rattle.std.specs.Prelude.{option_copied}
use Rattle.enc_session.proofs.Generations.{brought_step}
use Rattle.enc_session.proofs.newest.Newest.bring.Goals as goal

pub loop-i-preserved : goal.loop-i-preserved
loop-i-preserved c =
    brought_step c.args.methods.now c.loop-i.i c.in-Some.method.now c.args.generation c.loop-i.self c.put.new.self _
    (sym c.get.ensures ∙ ap option_copied c.in-Some.is) c.loop-i.invariant c.put.ensures
