use Rattle.std.proofs.Common.{◌∙◌, sym}
use Rattle.enc_checker.proofs.OwnMethods.{all_sizes}
use Rattle.enc_checker.proofs.methods.code_sizes.Goals as goal

pub loop-token-init : goal.loop-token-init
loop-token-init c = (c.deref-token-items.ensures.value ∙ c.in_ok-tokens.ensures.tokens, rw c.begin-sizes.ensures (sym (all_sizes c.args.delta.now)))
