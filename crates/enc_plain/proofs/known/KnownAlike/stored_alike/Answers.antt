use Rattle.std.proofs.Common.{◌≡◌, true, sym, ap, ◌∙◌}
use Rattle.enc_plain.specs.Alike.{signatures_alike}
use Rattle.enc_plain.proofs.known.KnownAlike.stored_alike.Goals as goal

pub returns-then-has-clause-alike : goal.returns-then-has-clause-alike
returns-then-has-clause-alike g c =
    let rows = g.R.CellView.rows c.args.rows.now in
    let stored = g.R.CellView.stored c.args.rows.now in
    let kept = c.turn_to.ensures.known rows stored c.requires.known in
    sym (c.has.ensures (signatures_alike rows c.turn_to.new.self.pairs.table) stored _ _ kept.3 c.requires.a c.requires.b c.if-has.true) ∙ ap (λ n. signatures_alike rows n c.args.a.now.bytes.now c.args.b.now.bytes.now) c.turn_to.ensures.table

pub returns-then-has-clause-known : goal.returns-then-has-clause-known
returns-then-has-clause-known g c = c.turn_to.ensures.known (g.R.CellView.rows c.args.rows.now) (g.R.CellView.stored c.args.rows.now) c.requires.known

pub judged_alike-requires : goal.judged_alike-requires
judged_alike-requires g c = c.turn_to.ensures.known (g.R.CellView.rows c.args.rows.now) (g.R.CellView.stored c.args.rows.now) c.requires.known
