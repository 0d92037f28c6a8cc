use Rattle.std.proofs.Common.{sym, subst, arith}
use Rattle.enc_reference_depth.specs.Edges.{AreEdges}
use Rattle.enc_reference_depth.proofs.EdgesTold.{told_none, told_scope}
use Rattle.enc_reference_depth.proofs.RowsRead.{row_here, type_from}
use Rattle.enc_reference_depth.proofs.Sound.{scope_kind}
use Rattle.enc_reference_depth.proofs.edges.scope_edges.Goals as goal

pub refer-requires-clause-row : goal.refer-requires-clause-row
refer-requires-clause-row g c =
    row_here (g.V.ModuleView.meaning c.args.view.now) 0x01 c.loop-n.n (omega (arith, c.loop-n-test.true, c.count-n-end.ensures.count))

pub refer-requires-clause-kind : goal.refer-requires-clause-kind
refer-requires-clause-kind g c = scope_kind

pub loop-n-preserved : goal.loop-n-preserved
loop-n-preserved g c =
    let m = g.V.ModuleView.meaning c.args.view.now in
    told_scope m c.loop-n.n c.loop-n.edges.items _ c.refer.result c.loop-n.invariant c.in_ok-push_edge.ensures
    (type_from m c.loop-n.n c.refer.result (omega (arith, c.loop-n-test.true, c.count-n-end.ensures.count)) c.refer.ensures)

pub loop-n-init : goal.loop-n-init
loop-n-init g c =
    let m = g.V.ModuleView.meaning c.args.view.now in
    subst (AreEdges m 0) (sym c.new-edges.ensures.items) (told_none m)

pub returns : goal.returns
returns g c =
    let m = g.V.ModuleView.meaning c.args.view.now in
    subst (λ n. AreEdges m n c.loop-n.edges.items)
    (omega (arith, c.loop-n-test.false, c.loop-n.auto.n-end, c.count-n-end.ensures.count)) c.loop-n.invariant
