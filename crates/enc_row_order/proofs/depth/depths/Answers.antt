use Rattle.std.proofs.Common.{◌≡◌, ◌∙◌, ap, map, sym, subst, arith}
use Rattle.std.specs.Prelude.{min, true}
use Rattle.std.specs.List.{list_all}
use Rattle.enc_row_order.specs.Walks.{doubled, is_short}
use Rattle.enc_row_order.specs.declared.depth.Walk.{Walk}
use Rattle.enc_row_order.proofs.Depths.{walks_double, walks_short, walks_end}
use Rattle.enc_row_order.proofs.depth.depths.Goals as goal

pub all_doubled-requires : goal.all_doubled-requires
all_doubled-requires g c =
    let at = c.loop-steps.invariant in
    record {
      short = subst (λ xs. list_all is_short xs ≡ true) (sym c.deref.ensures.value)
          (walks_short (g.V.ModuleView.meaning c.args.view.now) c.loop-steps.steps c.loop-steps.walks.items (omega (arith, at.1)) at.2);
    }

pub loop-steps-preserved : goal.loop-steps-preserved
loop-steps-preserved g c =
    let at = c.loop-steps.invariant in
    let few = c.count-count.ensures.few in
    let on = c.loop-steps-test.true in (
      omega (arith, at.0),
      omega (arith, few, on),
      walks_double (g.V.ModuleView.meaning c.args.view.now) c.loop-steps.steps c.loop-steps.walks.items _ c.requires.sound at.0 at.2
          (c.in_ok-walks-2.ensures ∙ ap (λ xs. map (doubled xs) xs) c.deref.ensures.value),
    )

pub returns : goal.returns
returns g c =
    walks_end (g.V.ModuleView.meaning c.args.view.now) c.loop-steps.steps c.count-count.result c.loop-steps.walks.items _ c.loop-steps.invariant.2
    c.count-count.ensures.count c.loop-steps-test.false
    (c.in_ok-depths.ensures ∙ ap (map (λ (w : Walk). min w.depth c.count-count.result)) c.deref-2.ensures.value)
