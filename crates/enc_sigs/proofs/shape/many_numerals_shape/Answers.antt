use Rattle.std.proofs.Common.{◌-◌, ◌+◌, ◌∙◌, sym, arith}
use Rattle.enc_sigs.proofs.Shapes.{shape_more, shape_fails, shape_done}
use Rattle.enc_sigs.proofs.shape.many_numerals_shape.Goals as goal

pub returns-in_default : goal.returns-in_default
returns-in_default c = sym (c.loop-i.invariant ∙ shape_fails _ _ (c.args.count - (c.loop-i.i + 1)) _ _ (omega arith) (sym c.in_default.ensures))

pub loop-i-preserved : goal.loop-i-preserved
loop-i-preserved c = c.loop-i.invariant ∙ shape_more _ _ _ _ _ _ _ (omega arith) (sym c.in-Some.ensures)

pub returns : goal.returns
returns c = sym (c.loop-i.invariant ∙ shape_done _ _ _ _ (omega arith))
