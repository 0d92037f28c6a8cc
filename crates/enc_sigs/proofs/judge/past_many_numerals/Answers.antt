use Rattle.std.proofs.Common.{◌≡◌, ◌-◌, ◌∙◌, arith, sym}
use Rattle.enc_sigs.specs.Grammar.{numbered_in, numeral_in}
use Rattle.enc_sigs.proofs.Left.{left_more, left_fails, left_done, numeral_left, numeral_none}
use Rattle.enc_sigs.proofs.judge.past_many_numerals.Goals as goal

pub returns-in_default : goal.returns-in_default
returns-in_default c = sym (c.loop-i.invariant ∙ left_fails (numbered_in 0 (numeral_in c.args.kind)) _ (c.args.count - c.loop-i.i - 1) _ (omega arith) (numeral_none (numeral_in c.args.kind) _ c.in_default.ensures))

pub loop-i-preserved : goal.loop-i-preserved
loop-i-preserved c = c.loop-i.invariant ∙ left_more (numbered_in 0 (numeral_in c.args.kind)) _ _ _ _ (omega arith) (numeral_left (numeral_in c.args.kind) _ _ _ c.in-Some.ensures)

pub returns : goal.returns
returns c = sym (c.loop-i.invariant ∙ left_done (numbered_in 0 (numeral_in c.args.kind)) _ _ (omega arith))
