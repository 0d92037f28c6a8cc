use Rattle.std.proofs.Common.{◌≡◌, Some, None, sym, ap, ◌∙◌}
use Rattle.enc_plain.specs.Module.{cells_of}
use Rattle.enc_plain.specs.Rows.{bytes_at}
use Rattle.enc_rules.specs.Listed.{edit_of}
use Rattle.enc_rules.proofs.RowsListed.{bytes_old, stored_low, stored_number}
use Rattle.enc_rules.proofs.context.Context.old_place.Goals as goal

pub returns-in-Some : goal.returns-in-Some
returns-in-Some g c =
    let view = c.self.inside.old.view.now in
    let chain = g.C.ChainView.chain view in
    let list = c.self.inside.list.now in
    let old : edit_of chain list.edits c.args.row ≡ None = rw (← c.self.view_is) at c.requires.old in
    let there : g.C.ModuleView.stored view c.in-Some.place ≡ Some (bytes_at (cells_of (g.C.ModuleView.meaning view)) c.args.row c.args.column) = c.in-Some.ensures in
    rw (← c.self.view_is) (
    stored_low (record { chain = chain; list = list }) c.in-Some.place c.if-place-lt9223372036854775808.true
    ∙ sym (g.met.C.ChainView.joins view c.in-Some.place)
    ∙ there
    ∙ ap (λ m. Some (bytes_at (cells_of m) c.args.row c.args.column)) (g.met.C.ChainView.means view)
    ∙ ap Some (sym (bytes_old chain list.edits c.args.row c.args.column old))
    )

pub returns-in_default : goal.returns-in_default
returns-in_default g c = rw c.cell_key.ensures.number (stored_number c.args.self.now c.args.row c.args.column c.cell_key.ensures.table c.ranges.column.fits)
