use Rattle.std.proofs.Common.{arith, ◌∙◌, sym, append-nil}
use Rattle.enc_pe.proofs.SectionsFound.{listed_all, listed_to, listed_more, pushed}
use Rattle.enc_pe.proofs.sections.list_of.Goals as goal

pub returns-in-None : goal.returns-in-None
returns-in-None c = sym (append-nil c.loop-i.list.items) ∙ rw (listed_to c.args.bytes.now c.loop-i.at c.args.count c.loop-i.i c.in-None.ensures.section) at c.loop-i.invariant

pub loop-i-preserved : goal.loop-i-preserved
loop-i-preserved c = pushed c.loop-i.list.items c.push.new.self.items _ _ _ _ c.in_ok-push-in-Some.ensures.items (listed_more c.args.bytes.now c.loop-i.at c.args.count c.loop-i.i _ (omega (arith, c.loop-i-test.true)) c.in-Some.ensures.section) c.loop-i.invariant

pub returns : goal.returns
returns c = sym (append-nil c.loop-i.list.items) ∙ rw (listed_all c.args.bytes.now c.loop-i.at c.args.count c.loop-i.i (omega (arith, c.loop-i-test.false))) at c.loop-i.invariant
