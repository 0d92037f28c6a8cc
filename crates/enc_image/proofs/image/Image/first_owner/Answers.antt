use Rattle.std.proofs.Common.{◌≡◌, ℕ, ◌<◌, true, false, sym, ap, ◌∙◌, arith}
use Rattle.std.specs.Prelude.{◌==◌, IsTrue}
use Rattle.std.specs.List.{list_any}
use Rattle.enc_schema.specs.Children.{owner_table}
use Rattle.enc_rows.specs.Layout.{rows_of}
use Rattle.enc_rows.specs.Source.{Source}
use Rattle.enc_plain.specs.Module.{has_row}
use Rattle.enc_image.specs.declared.open.Opened.{Opened}
use Rattle.enc_image.specs.Base.{source_from, module_in}
use Rattle.enc_image.proofs.Kids.{kids_from, kids_seen, child_low, owner_is, some_owner}
use Rattle.enc_image.proofs.image.Image.first_owner.Goals as goal

pub owns-requires-clause-row : goal.owns-requires-clause-row
owns-requires-clause-row c = child_low _ c.args.child c.requires.row

pub returns-then-owns : goal.returns-then-owns
returns-then-owns c =
    let o : Opened = record { container = c.self.inside.container; root = c.self.inside.root; tables = c.self.inside.tables } in
    let s : Source = source_from c.self.inside.bytes.items o.container o.root o.tables in
    let seen = kids_seen c.self.inside.bytes.items c.metadata.result.now o c.args.child.table c.loop-n.n c.self.invariant.opened (rw c.deref.ensures.value at c.metadata.ensures) in
    let here : list_any (λ (j : ℕ). j == c.args.child.row) (kids_from s c.args.child.table c.loop-n.n) ≡ true = sym (ap (list_any (λ (j : ℕ). j == c.args.child.row)) seen) ∙ sym c.owns.ensures ∙ c.if-owns.true in
    let before : (k : ℕ) → k < c.loop-n.n → list_any (λ (j : ℕ). j == c.args.child.row) (kids_from s c.args.child.table k) ≡ false = rw (← c.self.view_is) at c.loop-n.invariant in
    let many : c.count-n-end.result ≡ rows_of s.layout (owner_table c.args.child.table) = rw c.owner_table-table.ensures at c.count-n-end.ensures.count in
    rw (← c.self.view_is, c.owner_table-table.ensures) (owner_is s c.args.child c.loop-n.n c.requires.table (omega arith) before here)

pub unreachable-requires : goal.unreachable-requires
unreachable-requires c =
    let o : Opened = record { container = c.self.inside.container; root = c.self.inside.root; tables = c.self.inside.tables } in
    let s : Source = source_from c.self.inside.bytes.items o.container o.root o.tables in
    let row : IsTrue (has_row (module_in s) c.args.child) = rw (← c.self.view_is) at c.requires.row in
    let before : (k : ℕ) → k < c.loop-n.n → list_any (λ (j : ℕ). j == c.args.child.row) (kids_from s c.args.child.table k) ≡ false = rw (← c.self.view_is) at c.loop-n.invariant in
    let many : c.count-n-end.result ≡ rows_of s.layout (owner_table c.args.child.table) = rw c.owner_table-table.ensures at c.count-n-end.ensures.count in
    some_owner s c.args.child c.loop-n.n c.self.invariant.cells row c.requires.table (omega arith) before
