use Rattle.std.proofs.Common.{◌≡◌, ◌+◌, subst, arith}
use Rattle.enc_plain.specs.Sound.{row_count}
use Rattle.enc_reference_depth.specs.Edges.{AreEdges}
use Rattle.enc_reference_depth.proofs.EdgesTold.{told_spec}
use Rattle.enc_reference_depth.proofs.RowsRead.{row_here, spec_from}
use Rattle.enc_reference_depth.proofs.edges.all_edges.Goals as goal

pub spec_sig-requires-clause-row : goal.spec_sig-requires-clause-row
spec_sig-requires-clause-row g c =
    row_here (g.V.ModuleView.meaning c.args.view.now) 0x1B c.loop-n.n (omega (arith, c.loop-n-test.true, c.count-n-end.ensures.count))

pub loop-n-init : goal.loop-n-init
loop-n-init g c =
    let m = g.V.ModuleView.meaning c.args.view.now in
    let e : row_count m 0x01 ≡ row_count m 0x01 + 0 = omega arith in
    subst (λ n. AreEdges m n c.in_ok-edges.edges.items) e c.in_ok-edges.ensures

pub loop-n-preserved : goal.loop-n-preserved
loop-n-preserved g c =
    let m = g.V.ModuleView.meaning c.args.view.now in
    told_spec m (row_count m 0x01) c.loop-n.n _ c.loop-n.edges.items _ c.in_ok-sig.sig c.loop-n.invariant
    (omega (arith, c.count-refs.ensures.count)) c.in_ok-push_signature_edges.ensures (spec_from m c.loop-n.n c.in_ok-sig.sig c.in_ok-sig.ensures.read)

pub returns : goal.returns
returns g c =
    let m = g.V.ModuleView.meaning c.args.view.now in
    let all : c.loop-n.n ≡ row_count m 0x1B = omega (arith, c.loop-n-test.false, c.loop-n.auto.n-end, c.count-n-end.ensures.count) in
    subst (λ n. AreEdges m (row_count m 0x01 + n) c.loop-n.edges.items) all c.loop-n.invariant
