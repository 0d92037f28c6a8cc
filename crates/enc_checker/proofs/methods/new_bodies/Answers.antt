use Rattle.std.proofs.Common.{◌∙◌, sym}
use Rattle.enc_checker.proofs.OwnMethods.{all_bodies}
use Rattle.enc_checker.proofs.methods.new_bodies.Goals as goal

pub loop-token-init : goal.loop-token-init
loop-token-init c = (c.deref-token-items.ensures.value ∙ c.in_ok-tokens.ensures.tokens, rw c.begin-methods.ensures (sym (all_bodies c.args.delta.now)))
