use Rattle.std.proofs.Common.{arith}
use Rattle.enc_reference_depth.proofs.EdgesTold.{edges_part, edges_whole, few_part, part_there}
use Rattle.enc_reference_depth.proofs.edges.push_signature_edges.Goals as goal

pub unreachable-requires : goal.unreachable-requires
unreachable-requires c =
    part_there c.args.sig.now.parts c.loop-i.i (omega (arith, c.loop-i-test.true, c.count-i-end.ensures)) c.in-None.ensures

pub push_type_edges-requires : goal.push_type_edges-requires
push_type_edges-requires c = record { few = few_part c.args.sig.now.parts c.loop-i.i c.in-Some.part.now c.in-Some.ensures c.requires.few }

pub loop-i-preserved : goal.loop-i-preserved
loop-i-preserved c =
    edges_part c.args.place c.args.sig.now.parts c.loop-i.i c.in-Some.part.now c.args.edges.now.items c.loop-i.edges.items c.push_type_edges.new.edges.items
    c.in-Some.ensures c.loop-i.invariant c.in_ok-push_type_edges-in-Some.ensures

pub returns : goal.returns
returns c =
    edges_whole c.args.place c.args.sig.now.parts c.loop-i.i c.args.edges.now.items c.loop-i.edges.items
    (omega (arith, c.loop-i-test.false, c.count-i-end.ensures)) c.loop-i.invariant
