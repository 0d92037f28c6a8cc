use Rattle.std.proofs.Common.{rules, ◌∷◌, ◌∙◌, ap, arith, drop, length, reverse, List}
use Rattle.std.proofs.lemmas.List.{length-reverse}
use Rattle.enc_frames.proofs.Reversed.{replaced}
use Rattle.enc_frames.proofs.stack.Stack.replace.Goals as goal

-- src/stack.rt:113:5
pub returns : goal.returns
returns c =
    ap reverse c.truncate.ensures.items
    ∙ replaced c.self.inside.items.items c.len.result c.args.n c.args.value (search rules) c.requires.some
    (omega (arith, c.requires.there, ap length c.self.view_is, length-reverse c.self.inside.items.items))
    ∙ ap (λ (l : List _). c.args.value ∷ drop c.args.n l) c.self.view_is
