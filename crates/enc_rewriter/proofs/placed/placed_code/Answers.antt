use Rattle.std.proofs.Common.{◌+◌}
use Rattle.enc_meta.specs.Built.{heaps_built}
use Rattle.enc_meta.specs.Heaps.{user_at}
use Rattle.enc_rewriter.proofs.AllPlaced.{all_placed}
use Rattle.enc_rewriter.proofs.placed.placed_code.Goals as goal

pub returns-clause-placed : goal.returns-clause-placed
returns-clause-placed g c =
    all_placed (g.V.ModuleView.meaning c.args.view.now) (user_at (heaps_built c.args.heaps.now).users) c.in-Ok.placed.code.items c.place_fields.new.out.items c.in-Ok-place_fields.ensures.grows.0 c.in-Ok.placed.rvas.items
    c.in-Ok-place_fields.fields.items c.in-Ok.ensures.count c.in-Ok-place_fields.ensures.count c.in-Ok.ensures.placed c.in-Ok-place_fields.ensures.grows.1 c.in-Ok-place_fields.ensures.placed
    (λ n. rw (← c.deref.ensures.value) (c.words_law.ensures n)) (λ n. rw (← c.deref-2.ensures.value) (c.words_law-2.ensures n))
