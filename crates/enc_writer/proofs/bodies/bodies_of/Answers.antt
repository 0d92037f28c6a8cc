use Rattle.std.proofs.Common.{List, length, sym, ap, subst, ◌∙◌, arith}
use Rattle.enc_meta.specs.Built.{Built}
use Rattle.enc_meta.specs.BuiltLaws.{heaps_joined}
use Rattle.enc_edit_list.specs.declared.edit.Edit.{Edit}
use Rattle.enc_writer.specs.Writing.{MethodsPlaced}
use Rattle.enc_writer.proofs.BodiesPlaced.{one_placed, all_placed}
use Rattle.enc_writer.proofs.bodies.bodies_of.Goals as goal

pub loop-k-preserved : goal.loop-k-preserved
loop-k-preserved g c =
    let chain = c.args.context.now.chain in
    let l = c.args.context.now.list in
    let grown = c.in_ok-place.ensures.grows in
    record {
      same = c.in_ok-place.ensures.same ∙ c.loop-k.invariant.same;
      placed = one_placed chain l c.loop-k.k c.in_ok-place.place c.row_at.result c.loop-k.il.items c.push_given.new.il.items grown.0 c.loop-k.methods c.put_place.new.methods c.requires.may
          c.row_at.ensures grown.1 c.in_ok-place.ensures.stands c.in_ok-put_place.ensures c.loop-k.invariant.placed;
      room = c.in_ok-place.ensures.room;
    }

pub returns-clause-placed : goal.returns-clause-placed
returns-clause-placed g c =
    let chain = c.args.context.now.chain in
    let l = c.args.context.now.list in
    let many = ap (λ (edits : List Edit). length edits) c.edits-k-end.ensures.edits in
    subst (λ (h : Built). MethodsPlaced chain l (heaps_joined chain.heaps h) c.loop-k.il.items c.loop-k.methods) (sym c.requires.heaps)
    (all_placed chain l c.loop-k.k c.loop-k.il.items c.loop-k.methods (omega (arith, many, c.loop-k-test.false)) c.loop-k.invariant.placed)
