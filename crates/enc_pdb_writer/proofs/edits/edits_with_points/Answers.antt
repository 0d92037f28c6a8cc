use Rattle.std.proofs.Common.{◌++◌, get_or, ap, ◌∙◌, arith}
use Rattle.std.proofs.lemmas.Bool.Decides.{nat_tests}
use Rattle.enc_base.specs.Token.{nil}
use Rattle.enc_edit_list.specs.declared.edit.Edit.{Edit}
use Rattle.enc_pdb_writer.specs.Listed.{placed_edit, placed_from}
use Rattle.enc_pdb_writer.proofs.EditsPlaced.{placed_more, placed_all}
use Rattle.enc_pdb_writer.proofs.edits.edits_with_points.Goals as goal

pub loop-place-preserved : goal.loop-place-preserved
loop-place-preserved c =
    placed_more c.args.methods.now c.args.edits.now c.loop-place.place nil c.index-edits-place.result c.loop-place.placed.items c.push_edit.new.placed.items (placed_from 0 c.args.methods.now c.args.edits.now) c.requires c.loop-place-test.true
    c.loop-place.invariant
    (c.in_ok-push_edit.ensures ∙ ap (λ (e : Edit). c.loop-place.placed.items ++ placed_edit c.loop-place.place (get_or c.args.methods.now c.loop-place.place nil) e) c.index-edits-place.is)

pub returns : goal.returns
returns c =
    placed_all c.args.methods.now c.args.edits.now c.loop-place.place c.loop-place.placed.items (placed_from 0 c.args.methods.now c.args.edits.now) (grind (arith, nat_tests, c.loop-place-test.false)) c.loop-place.invariant
