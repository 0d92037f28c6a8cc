use Rattle.std.proofs.Common.{Option, Some, None, ◌∙◌, sym, ap}
use Rattle.std.specs.Prelude.{option_map}
use Rattle.std.specs.Borrow.{Bor}
use Rattle.enc_edit_list.specs.declared.edit.Edit.{Edit}
use Rattle.enc_pdb_writer.proofs.PointsSaid.{row_can, method_is}
use Rattle.enc_pdb_writer.proofs.points.points_of.Goals as goal

pub said-requires : goal.said-requires
said-requires c =
    row_can c.args.edits.now c.args.placed.now c.args.method.row c.in-Some.edit.now c.requires
    (sym c.edit_of.ensures ∙ ap (λ (o : Option (Bor Edit)). option_map (λ (e : Bor Edit). e.now) o) c.in-Some.is)

pub returns-in-Some : goal.returns-in-Some
returns-in-Some c =
    let at = sym c.edit_of.ensures ∙ ap (λ (o : Option (Bor Edit)). option_map (λ (e : Bor Edit). e.now) o) c.in-Some.is in
    rw (method_is c.args.edits.now c.args.placed.now c.args.method (Some c.in-Some.edit.now) c.if-method-ne-METHOD_DEF.false at) c.said.ensures

pub returns-in-None : goal.returns-in-None
returns-in-None c =
    let at = sym c.edit_of.ensures ∙ ap (λ (o : Option (Bor Edit)). option_map (λ (e : Bor Edit). e.now) o) c.in-None.is in
    rw (method_is c.args.edits.now c.args.placed.now c.args.method None c.if-method-ne-METHOD_DEF.false at) c.none-in-None.ensures
