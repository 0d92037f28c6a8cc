use Rattle.std.proofs.Common.{sym, subst}
use Rattle.enc_reference_depth.specs.Edges.{AreDepths}
use Rattle.enc_reference_depth.proofs.NextDepths.{found_first, found_second}
use Rattle.enc_reference_depth.proofs.deep.first_deep.Goals as goal

pub returns-in-Some : goal.returns-in-Some
returns-in-Some g c =
    let m = g.V.ModuleView.meaning c.args.view.now in
    let are = subst (AreDepths m 100) (sym c.deref.ensures.value) c.in_ok-depths.ensures in
    found_first m c.count-refs.result c.deref.result.now c.in-Some.token are c.count-refs.ensures.count c.in-Some.ensures

pub returns : goal.returns
returns g c =
    found_second (g.V.ModuleView.meaning c.args.view.now) c.count-refs.result c.count.result c.in_ok-depths.depths.items c.deref.result.now
    c.deref-in-None.result.now c.first_deep_row-in-None.result c.in_ok-depths.ensures c.count-refs.ensures.count c.count.ensures.count c.deref.ensures.value
    c.deref-in-None.ensures.value c.in-None.ensures c.first_deep_row-in-None.ensures
