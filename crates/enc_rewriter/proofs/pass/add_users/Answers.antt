use Rattle.std.proofs.Common.{sym, ◌∙◌}
use Rattle.enc_rewriter.proofs.Seen.{seen_before, one_seen}
use Rattle.enc_rewriter.proofs.pass.add_users.Goals as goal

pub returns-then-contains-clause-filled : goal.returns-then-contains-clause-filled
returns-then-contains-clause-filled g c =
    seen_before (g.V.ModuleView.meaning c.args.view.now) (g.V.ModuleView.places c.args.view.now) c.args.heaps.now c.args.seen.now c.args.method c.code_place-place.result c.requires.seen c.code_place-place.ensures.body
    (sym c.contains.ensures ∙ c.if-contains.true)

pub returns-in-Ok-insert-clause-seen : goal.returns-in-Ok-insert-clause-seen
returns-in-Ok-insert-clause-seen g c =
    one_seen (g.V.ModuleView.meaning c.args.view.now) (g.V.ModuleView.places c.args.view.now) c.args.heaps.now c.add_body.new.heaps c.args.seen.now c.insert.new.self c.args.method c.code_place-place.result c.requires.seen
    c.code_place-place.ensures.body c.in-Ok.ensures.filled c.in-Ok-insert.ensures.updates
