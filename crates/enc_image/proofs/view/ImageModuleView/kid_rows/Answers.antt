use Rattle.std.proofs.Common.{◌≡◌, ◌-◌, sym, ◌∙◌, arith}
use Rattle.std.specs.Prelude.{IsTrue}
use Rattle.enc_rows.specs.Source.{Source}
use Rattle.enc_plain.specs.Module.{has_row, kids_of}
use Rattle.enc_image.specs.declared.open.Opened.{Opened}
use Rattle.enc_image.specs.Base.{source_from, module_in}
use Rattle.enc_image.proofs.Kids.{kids_from, kids_are, kids_seen, owner_in_rows}
use Rattle.enc_image.proofs.view.ImageModuleView.kid_rows.Goals as goal

pub overflow_sub-owner : goal.overflow_sub-owner
overflow_sub-owner c = let at = owner_in_rows _ c.args.owner c.args.table c.requires.row c.requires.owners in omega (arith, at.0)

pub child_rows-requires-clause-row : goal.child_rows-requires-clause-row
child_rows-requires-clause-row c =
    let o : Opened = record { container = c.self.inside.container; root = c.self.inside.root; tables = c.self.inside.tables } in
    let s : Source = source_from c.self.inside.bytes.items o.container o.root o.tables in
    let row : IsTrue (has_row (module_in s) c.args.owner) = rw (← c.self.view_is) at c.requires.row in
    let at = owner_in_rows s c.args.owner c.args.table row c.requires.owners in
    at.1

pub returns : goal.returns
returns c =
    let o : Opened = record { container = c.self.inside.container; root = c.self.inside.root; tables = c.self.inside.tables } in
    let s : Source = source_from c.self.inside.bytes.items o.container o.root o.tables in
    let row : IsTrue (has_row (module_in s) c.args.owner) = rw (← c.self.view_is) at c.requires.row in
    let are : kids_of (module_in s) c.args.owner c.args.table ≡ kids_from s c.args.table (c.args.owner.row - 1) = kids_are s c.args.owner c.args.table row c.requires.table c.requires.owners in
    let seen = kids_seen c.self.inside.bytes.items c.metadata.result.now o c.args.table (c.args.owner.row - 1) c.self.invariant.opened (rw c.deref.ensures.value at c.metadata.ensures) in
    rw (← c.self.view_is) (c.in_ok-rows.ensures ∙ seen ∙ sym are)
