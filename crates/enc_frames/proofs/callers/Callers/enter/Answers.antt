use Rattle.std.proofs.Common.{rules, ◌∷◌, ◌-◌, ◌∙◌, ap, reverse, List}
use Rattle.enc_frames.proofs.Reversed.{changed_last}
use Rattle.enc_frames.proofs.callers.Callers.enter.Goals as goal

-- src/callers.rt:47:5
pub returns-clause-below : goal.returns-clause-below
returns-clause-below c =
    changed_last c.self.inside.items.items c.push.new.self.items c.args.frame c.swap.new.y (c.len-last.result - 1) (search rules) (search rules)
    ∙ ap (λ (f : _). f ∷ reverse c.self.inside.items.items) c.swap.ensures.y_after
    ∙ ap (λ (l : List _). c.args.top.now ∷ l) c.self.view_is
