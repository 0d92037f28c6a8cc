use Rattle.std.proofs.Common.{[], ◌∷◌, ◌∙◌, ap}
use Rattle.enc_pe.specs.declared.reach.Corner.{Corner}
use Rattle.enc_pe.proofs.Reaches.{reach_of}
use Rattle.enc_pe.proofs.sections.Sections.reach_with.Goals as goal

pub returns : goal.returns
returns c = reach_of c.args.left.now c.args.right.now c.args.middle _ _ _ _ _ c.reach-2.ensures c.reach.ensures (c.in_ok-own.ensures ∙ ap (λ (x : Corner). x ∷ []) c.corner_of.ensures) c.in_ok-behind.ensures c.in_ok-reach.ensures
