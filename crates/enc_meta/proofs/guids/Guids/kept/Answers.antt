use Rattle.std.proofs.Common.{sym}
use Rattle.enc_meta.specs.Heaps.{nil_guid}
use Rattle.enc_meta.proofs.Entries.{nil_kept, kept_at, not_kept}
use Rattle.enc_meta.proofs.guids.Guids.kept.Goals as goal

pub returns-then-eq-clause-found : goal.returns-then-eq-clause-found
unfolding nil_guid
returns-then-eq-clause-found c = nil_kept c.args.self.now.start c.args.self.now.guids c.args.guid.now (sym c.if-eq.ensures)

pub returns-in-Some-clause-found : goal.returns-in-Some-clause-found
unfolding nil_guid
returns-in-Some-clause-found c =
    rw (← c.self.view_is) (kept_at c.self.inside.start c.in-Some.before c.self.inside.entries.keys c.args.guid.now (sym c.if-eq.ensures) c.in-Some.ensures.index)

pub returns-in-None-clause-none : goal.returns-in-None-clause-none
unfolding nil_guid
returns-in-None-clause-none c =
    rw (← c.self.view_is) (not_kept c.self.inside.entries.keys c.args.guid.now (sym c.if-eq.ensures) c.in-None.ensures.index)
