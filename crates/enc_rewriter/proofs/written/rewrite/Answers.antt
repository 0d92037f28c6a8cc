use Rattle.std.proofs.Common.{◌≤◌, ◌∙◌, length, subst}
use Rattle.enc_rewriter.specs.Weight.{module_weight}
use Rattle.enc_rewriter.proofs.Passing.{first_told, second_told, neither_told}
use Rattle.enc_rewriter.proofs.written.rewrite.Goals as goal

pub returns-in-Err-clause-tells : goal.returns-in-Err-clause-tells
returns-in-Err-clause-tells g c = first_told (g.V.ModuleView.meaning c.args.view.now) (g.P.PointSource.debug c.args.points.now) c.in-Err.fault c.in-Err.ensures.tells

pub returns-in-Err-pdb_of-clause-tells : goal.returns-in-Err-pdb_of-clause-tells
returns-in-Err-pdb_of-clause-tells g c =
    second_told (g.V.ModuleView.meaning c.args.view.now) (g.P.PointSource.debug c.args.points.now) c.in-Err-pdb_of.fault c.in-Ok.ensures.tells c.in-Err-pdb_of.ensures.tells

pub returns-clause-tells : goal.returns-clause-tells
returns-clause-tells g c =
    neither_told (g.V.ModuleView.meaning c.args.view.now) (g.P.PointSource.debug c.args.points.now) c.in-Ok.ensures.tells c.in-Ok-pdb_of.ensures.tells

pub returns-clause-written : goal.returns-clause-written
returns-clause-written g c = record {
  image_is = rw c.from_vec.ensures (c.in_ok-image.ensures.means);
  light =
      subst (λ h. length c.from_vec.result ≤ module_weight (g.V.ModuleView.meaning c.args.view.now) h) (c.in_ok-heaps.ensures ∙ c.in-Ok.ensures.values)
      (rw c.from_vec.ensures (c.in_ok-image.ensures.light));
  plain = rw c.from_vec.ensures (c.in_ok-image.ensures.plain);
  pdb_is = rw c.from_vec-2.ensures (c.in-Ok-pdb_of.ensures.written);
}
