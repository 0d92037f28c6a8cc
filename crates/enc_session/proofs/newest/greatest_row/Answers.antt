use Rattle.std.proofs.Common.{sym, ap, ◌∙◌, arith}
use Rattle.std.specs.Prelude.{option_copied}
use Rattle.enc_session.proofs.Generations.{greatest_step}
use Rattle.enc_session.proofs.newest.greatest_row.Goals as goal

pub loop-i-preserved : goal.loop-i-preserved
loop-i-preserved c =
    greatest_step c.args.methods.now c.loop-i.i c.in-Some.method.now c.loop-i.greatest c.max-greatest.result _
    (sym c.get.ensures ∙ ap option_copied c.in-Some.is) c.loop-i.invariant (grind (arith, c.max-greatest.ensures))
