use Rattle.std.proofs.Common.{◌-◌, ◌∙◌, ap, arith}
use Rattle.std.specs.Prelude.{nat_le}
use Rattle.enc_pe.specs.declared.reach.Corner.{Corner}
use Rattle.enc_pe.proofs.Reaches.{none_begins_there, last_ends, seen_default}
use Rattle.enc_pe.proofs.reach.Reach.covers.Goals as goal

pub returns-then-low-gt0 : goal.returns-then-low-gt0
returns-then-low-gt0 c =
    ap (λ (x : Corner). nat_le c.args.behind x.end) (seen_default c.self.inside.corners.items c.args.self.now (c.loop-low.low - 1) _ c.index-then-low-gt0.ensures c.self.view_is (omega (arith, c.if-low-gt0.true, c.loop-low.invariant.order, c.loop-low.invariant.end)))
    ∙ last_ends c.args.self.now c.args.first c.args.behind c.loop-low.low (rw c.self.view_is at c.self.invariant) (omega (arith, c.if-low-gt0.true)) (omega (arith, c.loop-low.invariant.order, c.loop-low.invariant.end)) c.loop-low.invariant.low (λ k le. c.loop-low.invariant.high k (omega (arith, le, c.loop-low-test.false)))

pub returns-else-low-gt0 : goal.returns-else-low-gt0
returns-else-low-gt0 c =
    none_begins_there c.args.self.now c.args.first c.args.behind c.loop-low.low (omega (arith, c.if-low-gt0.false)) (λ k le. c.loop-low.invariant.high k (omega (arith, le, c.loop-low-test.false)))
