use Rattle.std.proofs.Common.{◌-◌, ◌∙◌, sym, arith}
use Rattle.enc_sigs.proofs.Many.{many_more, many_fails, many_done}
use Rattle.enc_sigs.proofs.held.numerals_many.Goals as goal

pub returns-in_default : goal.returns-in_default
returns-in_default c = λ e. c.loop-i.invariant ∙ many_fails _ _ _ (c.args.count - c.loop-i.i - 1) _ (omega arith) (sym c.in_default.ensures)

pub loop-i-preserved : goal.loop-i-preserved
loop-i-preserved c = rw c.in-Ok.ensures (c.loop-i.invariant ∙ many_more _ _ _ _ _ _ _ (omega arith) (sym c.in-Some.ensures))

pub returns : goal.returns
returns c = c.loop-i.invariant ∙ many_done _ _ _ _ (omega arith)
