use Rattle.std.proofs.Common.{◌∙◌, sym}
use Rattle.enc_ppdb.specs.Fault.{is_there, are_there}
use Rattle.enc_ppdb.proofs.There.{all_more, all_fails}
use Rattle.enc_ppdb.proofs.fault.are_there.Goals as goal

pub returns-then-not-is_there : goal.returns-then-not-is_there
unfolding are_there
returns-then-not-is_there c = sym (c.loop-i.invariant ∙ all_fails (is_there c.args.count) c.args.points.now.points c.loop-i.i c.point.result c.point.ensures (sym c.is_there.ensures ∙ c.if-not-is_there.true))

pub loop-i-preserved : goal.loop-i-preserved
loop-i-preserved c = c.loop-i.invariant ∙ all_more (is_there c.args.count) c.args.points.now.points c.loop-i.i c.point.result c.point.ensures (sym c.is_there.ensures ∙ c.if-not-is_there.false)
