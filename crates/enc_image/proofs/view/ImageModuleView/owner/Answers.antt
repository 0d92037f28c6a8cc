use Rattle.std.proofs.Common.{◌≡◌, ℕ, ◌<◌, true, sym, ap, ◌∙◌}
use Rattle.std.specs.Prelude.{◌==◌}
use Rattle.std.specs.List.{list_any}
use Rattle.enc_schema.specs.Children.{owner_table}
use Rattle.enc_rows.specs.Layout.{rows_of}
use Rattle.enc_rows.specs.Source.{Source}
use Rattle.enc_image.specs.declared.open.Opened.{Opened}
use Rattle.enc_image.specs.Base.{source_from}
use Rattle.enc_image.proofs.Kids.{kids_from, kids_seen, child_low}
use Rattle.enc_image.proofs.SoundOwners.{any_owner}
use Rattle.enc_image.proofs.view.ImageModuleView.owner.Goals as goal

pub owns-requires-clause-row : goal.owns-requires-clause-row
owns-requires-clause-row c = child_low _ c.args.child c.requires.row

pub returns : goal.returns
returns c =
    let o : Opened = record { container = c.self.inside.container; root = c.self.inside.root; tables = c.self.inside.tables } in
    let s : Source = source_from c.self.inside.bytes.items o.container o.root o.tables in
    let seen = kids_seen c.self.inside.bytes.items c.metadata-bytes.result.now o c.args.child.table c.in-Some.n c.self.invariant.opened (rw c.deref.ensures.value at c.metadata-bytes.ensures) in
    let here : list_any (λ (j : ℕ). j == c.args.child.row) (kids_from s c.args.child.table c.in-Some.n) ≡ true = sym (ap (list_any (λ (j : ℕ). j == c.args.child.row)) seen) ∙ sym c.owns.ensures ∙ c.if-owns.true in
    let row : c.in-Some.n < rows_of s.layout (owner_table c.args.child.table) = rw (← c.self.view_is) at c.in-Some.ensures.row in
    rw (← c.self.view_is, c.owner_table-table.ensures) (any_owner s c.args.child c.in-Some.n c.self.invariant.cells c.requires.table row here)
