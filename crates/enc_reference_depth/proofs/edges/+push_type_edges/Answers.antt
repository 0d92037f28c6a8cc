use Rattle.std.proofs.Common.{arith}
use Rattle.enc_sigs.specs.Tree.{trees}
use Rattle.enc_reference_depth.proofs.EdgesTold.{edges_kid, edges_all, few_kid, kid_there, small_kid}
use Rattle.enc_reference_depth.proofs.edges.+push_type_edges.Goals as goal

pub push_type_edges-requires : goal.push_type_edges-requires
push_type_edges-requires t c =
    let e = c.args.elem.now in
    let few = c.requires.few in (
      omega (arith, small_kid e.kids c.loop-kid.i c.in-Some.kid.now c.in-Some.ensures),
      few_kid e.kids c.loop-kid.i c.in-Some.kid.now c.in-Some.ensures few.1,
    )

pub loop-kid-smaller : goal.loop-kid-smaller
loop-kid-smaller t c = omega (arith, kid_there (trees c.args.elem.now.kids) c.loop-kid.i c.in-Some.kid.now c.in-Some.ensures)

pub loop-kid-preserved : goal.loop-kid-preserved
loop-kid-preserved t c =
    let e = c.args.elem.now in (
      omega (arith, kid_there (trees e.kids) c.loop-kid.i c.in-Some.kid.now c.in-Some.ensures),
      edges_kid c.args.place e c.loop-kid.i c.in-Some.kid.now c.args.edges.now.items c.loop-kid.edges.items c.push_type_edges.new.edges.items
          c.in-Some.ensures c.loop-kid.invariant.1 c.in_ok-push_type_edges.ensures,
    )

pub returns : goal.returns
returns t c =
    edges_all c.args.place c.args.elem.now c.loop-kid.i c.args.edges.now.items c.loop-kid.edges.items c.in_default.ensures c.loop-kid.invariant.1
