use Rattle.std.proofs.Common.{◌-◌, ◌∙◌, arith, sym, ap}
use Rattle.enc_sigs.specs.Reads.{left_after}
use Rattle.enc_sigs.proofs.Left.{left_more, left_fails, left_done}
use Rattle.enc_machine_types.specs.Fronts.{kind_front}
use Rattle.enc_machine_types.proofs.front.past_kinds.Goals as goal

pub returns-in_default : goal.returns-in_default
returns-in_default c = sym (c.loop-i.invariant ∙ left_fails kind_front _ (c.args.count - c.loop-i.i - 1) _ (omega arith) (ap left_after c.in_default.ensures))

pub loop-i-preserved : goal.loop-i-preserved
loop-i-preserved c = c.loop-i.invariant ∙ left_more kind_front _ _ _ _ (omega arith) (ap left_after c.in-Some.ensures)

pub returns : goal.returns
returns c = sym (c.loop-i.invariant ∙ left_done kind_front _ _ (omega arith))
