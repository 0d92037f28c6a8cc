use Rattle.std.proofs.Common.{rules, ◌∷◌, ◌-◌, ◌∙◌, ap, reverse, List}
use Rattle.std.specs.Prelude.{drop}
use Rattle.enc_frames.specs.Straight.{moved_on}
use Rattle.enc_frames.proofs.Reversed.{changed_last}
use Rattle.enc_frames.proofs.callers.Callers.enter_call.Goals as goal

-- src/enter.rt
pub returns-clause-below : goal.returns-clause-below
returns-clause-below c =
    changed_last c.self.inside.items.items c.push.new.self.items c.args.frame c.swap.new.y (c.len-last.result - 1) (search rules) (search rules)
    ∙ ap (λ (f : _). f ∷ reverse c.self.inside.items.items) (c.swap.ensures.y_after ∙ c.move_on.ensures)
    ∙ ap (λ (l : List _). moved_on c.args.next (drop c.args.n c.args.top.now.stack) c.args.top.now ∷ l) c.self.view_is
