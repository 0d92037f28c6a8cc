use Rattle.std.proofs.Common.{List, ◌∙◌, ap, subst}
use Rattle.std.specs.List.{list_all}
use Rattle.enc_edit_list.specs.Form.{edit_fits, list_fits}
use Rattle.enc_edit_list.specs.declared.edit.Edit.{Edit}
use Rattle.enc_pdb_writer.specs.Listed.{AreByRows}
use Rattle.enc_pdb_writer.proofs.ListSound.{is_listed}
use Rattle.enc_pdb_writer.proofs.write.listed.Goals as goal

pub by_rows-requires-clause-form : goal.by_rows-requires-clause-form
unfolding list_fits
by_rows-requires-clause-form c = ap (λ (es : List Edit). list_all edit_fits es) c.as_slice.ensures ∙ c.requires.form

pub returns-clause-listed : goal.returns-clause-listed
returns-clause-listed c = is_listed c.args.list.now c.args.methods.now c.in_ok-placed.placed.items c.requires.points c.requires.methods
    (subst (λ (es : List Edit). AreByRows c.args.methods.now es c.in_ok-placed.placed.items) c.as_slice.ensures c.in_ok-placed.ensures)
