use Rattle.std.proofs.Common.{◌+◌, ◌-◌, ◌∙◌, arith, sym}
use Rattle.enc_machine_types.proofs.KindsLeft.{get_more, get_first, get_none, get_past}
use Rattle.enc_machine_types.proofs.kinds.nth_kind.Goals as goal

pub returns-then-i-count : goal.returns-then-i-count
returns-then-i-count c = sym (get_past c.args.count c.args.i c.args.bytes.now (omega arith))

pub returns-in_default : goal.returns-in_default
returns-in_default c = sym (c.loop-k.invariant ∙ get_none (c.args.count - c.loop-k.k) (c.args.i - c.loop-k.k) c.loop-k.rest.now c.in_default.ensures)

pub loop-k-preserved : goal.loop-k-preserved
loop-k-preserved c = c.loop-k.invariant ∙ get_more (c.args.count - c.loop-k.k) (c.args.count - (c.loop-k.k + 1)) (c.args.i - c.loop-k.k) (c.args.i - (c.loop-k.k + 1)) c.loop-k.rest.now _ _ (omega arith) (omega arith) c.in-Some.ensures

pub returns-in_default-parameter_front : goal.returns-in_default-parameter_front
returns-in_default-parameter_front c = sym (c.loop-k.invariant ∙ get_none (c.args.count - c.loop-k.k) (c.args.i - c.loop-k.k) c.loop-k.rest.now c.in_default-parameter_front.ensures)

pub returns : goal.returns
returns c = sym (c.loop-k.invariant ∙ get_first (c.args.count - c.loop-k.k) (c.args.count - c.loop-k.k - 1) (c.args.i - c.loop-k.k) c.loop-k.rest.now _ _ (omega arith) (omega arith) c.in-Some-parameter_front.ensures)
