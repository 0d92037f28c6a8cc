use Rattle.std.specs.Prelude.{decimal, codes}
use Rattle.enc_text.specs.BodyText.{stack_text}
use Rattle.enc_text.proofs.Pieces.{on_ok, both_pieces}
use Rattle.enc_text.proofs.body.push_stack.Goals as goal

pub returns : goal.returns
unfolding stack_text
returns c = on_ok c.push_decimal.result _ _ c.push_decimal.ensures (λ new. rw (← c.from.ensures) (both_pieces _ _ _ (codes "  body stack=") (decimal c.from.result) c.in_ok-push_str.ensures new))
