use Rattle.std.proofs.Common.{sym, ap, ◌∙◌}
use Rattle.std.specs.Prelude.{flat_map}
use Rattle.enc_edit_list.specs.Form.{edit_fits}
use Rattle.enc_rules.specs.Filled.{has_no_zero, have_no_zero}
use Rattle.enc_rules.specs.Rules.{texts_in_cell}
use Rattle.enc_rules.proofs.WholeTexts.{added_whole, name_whole}
use Rattle.enc_rules.proofs.heaps.add_texts.Goals as goal

pub add_cell_texts-requires : goal.add_cell_texts-requires
add_cell_texts-requires g c =
    ap (λ cells. have_no_zero (flat_map texts_in_cell cells)) c.as_slice.ensures
    ∙ added_whole c.in-Add.table c.in-Add.owner c.in-Add.cells c.in-Add.code c.in-Add.points (ap edit_fits (sym c.in-Add.is) ∙ c.requires.form)

pub add_text-requires : goal.add_text-requires
add_text-requires g c =
    ap has_no_zero c.text.ensures
    ∙ name_whole c.args.context.now.chain c.args.context.now.list c.in-Body.method c.requires.sound c.requires.list c.if-method-ne-METHOD_DEF.false
