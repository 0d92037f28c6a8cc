use Rattle.std.proofs.Common.{◌≡◌, ◌+◌, ◌++◌, ◌∷◌, [], ◌∙◌, take, suc, ap, arith, ℕ}
use Rattle.std.proofs.Math.Seq.{take-suc}
use Rattle.enc_pe.specs.declared.reach.Corner.{Corner}
use Rattle.enc_pe.proofs.Reaches.{reach_more}
use Rattle.enc_pe.proofs.sections.reach_of.Goals as goal

pub loop-i-preserved : goal.loop-i-preserved
loop-i-preserved c =
    let next : c.loop-i.i + 1 ≡ suc c.loop-i.i = omega arith in
    reach_more (take c.loop-i.i c.args.list.now) (take (c.loop-i.i + 1) c.args.list.now) _ c.loop-i.reach c.in_ok-own.own c.in_ok-reach.reach (ap (λ (n : ℕ). take n c.args.list.now) next ∙ take-suc c.args.list.now c.loop-i.i _ c.loop-i-test.true) c.loop-i.invariant (c.in_ok-own.ensures ∙ ap (λ (x : Corner). x ∷ []) c.corner_of.ensures) c.in_ok-reach.ensures
