use Rattle.std.proofs.Common.{◌≡◌, sym, subst, arith}
use Rattle.enc_reference_depth.specs.Edges.{AreDepths, AreLow, AreNext}
use Rattle.enc_reference_depth.proofs.NextDepths.{are_low, first_are, next_are}
use Rattle.enc_reference_depth.proofs.depths.all_depths.Goals as goal

pub loop-step-init : goal.loop-step-init
loop-step-init g c =
    first_are (g.V.ModuleView.meaning c.args.view.now) _ c.in_ok-depths.depths.items (c.in_ok-depths.ensures.items_if_clones_equal (λ x same. same))
    (omega (arith, c.count-refs.ensures.count, c.count.ensures.count))

pub next_depths-requires : goal.next_depths-requires
next_depths-requires g c = record {
  low = subst AreLow (sym c.deref-in-loop-step.ensures.value)
      (are_low (g.V.ModuleView.meaning c.args.view.now) c.loop-step._step c.loop-step.depths.items c.loop-step.invariant (omega (arith, c.loop-step-test.true)));
}

pub loop-step-preserved : goal.loop-step-preserved
loop-step-preserved g c =
    let m = g.V.ModuleView.meaning c.args.view.now in
    let refs = c.count-refs.result in
    let next = c.in_ok-depths-2.depths.items in
    next_are m c.loop-step._step refs c.loop-step.depths.items c.requires.sound c.loop-step.invariant c.count-refs.ensures.count c.in_ok-edges.edges.items next
    c.in_ok-edges.ensures
    (subst (λ es. AreNext es refs c.loop-step.depths.items next) c.deref.ensures.value
    (subst (λ ds. AreNext c.deref.result.now refs ds next) c.deref-in-loop-step.ensures.value c.in_ok-depths-2.ensures))

pub returns : goal.returns
returns g c =
    let m = g.V.ModuleView.meaning c.args.view.now in
    let all : c.loop-step._step ≡ 100 = omega (arith, c.loop-step-test.false, c.loop-step.auto._step-end) in
    subst (λ n. AreDepths m n c.loop-step.depths.items) all c.loop-step.invariant
