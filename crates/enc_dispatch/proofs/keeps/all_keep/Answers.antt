use Rattle.std.proofs.Common.{◌∙◌, refl, sym, arith}
use Rattle.std.proofs.lemmas.Bool.{and_from}
use Rattle.std.proofs.lemmas.List.Folds.{list_all_more}
use Rattle.enc_plain.specs.Module.{cells_of}
use Rattle.enc_dispatch.proofs.keeps.all_keep.Goals as goal

pub loop-row-init : goal.loop-row-init
loop-row-init g c = (refl, c.new-known.ensures (cells_of (g.W.ModuleView.meaning c.args.after.now)) (g.W.ModuleView.stored c.args.after.now))

pub loop-row-preserved : goal.loop-row-preserved
loop-row-preserved g c = (
  list_all_more _ c.args.listed.now c.loop-row.row-index _ (omega (arith, c.loop-row-test.true)) ∙ and_from _ _ c.loop-row.invariant.0 (sym c.keeps.ensures.keeps ∙ c.if-not-keeps.false),
  c.keeps.ensures.known,
)
