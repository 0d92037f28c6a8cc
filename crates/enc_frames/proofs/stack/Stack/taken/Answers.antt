use Rattle.std.proofs.Common.{rules, ◌∙◌, ap, arith, reverse}
use Rattle.enc_frames.proofs.Fitted.{taken_is}
use Rattle.enc_frames.specs.Values.{arguments}
use Rattle.enc_frames.proofs.stack.Stack.taken.Goals as goal

-- src/stack.rt:94:5
pub returns : goal.returns
returns c =
    taken_is c.args.n c.len-len.result c.as_slice.result.now (search rules) (omega (arith, c.if-n-len.false))
    ∙ ap (arguments c.args.n) (ap reverse c.as_slice.ensures.value ∙ c.self.view_is)
