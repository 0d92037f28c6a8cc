use Rattle.std.proofs.Common.{◌∙◌, sym, ap, map}
use Rattle.std.specs.Prelude.{remove}
use Rattle.enc_watch.specs.Audience.{Watching, without_kind}
use Rattle.enc_watch.proofs.Taken.{map_removed}
use Rattle.enc_watch.proofs.handed.Handed.take.Goals as goal

pub returns-in-Some-clause-left : goal.returns-in-Some-clause-left
returns-in-Some-clause-left g c =
    let seen : g.row.W.Denot → Watching = g.W.Watcher.watching in
    ap (map seen) c.remove.ensures.items
    ∙ map_removed seen c.self.inside.watchers.items c.in-Some.i
    ∙ ap (λ ws. remove (map seen ws) c.in-Some.i) (sym c.deref.ensures.value)
    ∙ sym c.in-Some.ensures.rest
    ∙ ap (λ ws. without_kind c.args.kind (map seen ws)) c.deref.ensures.value
    ∙ ap (without_kind c.args.kind) c.self.view_is
