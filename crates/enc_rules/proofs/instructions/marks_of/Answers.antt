use Rattle.std.proofs.Common.{◌<◌, ◌∙◌, arith, length}
use Rattle.std.proofs.lemmas.List.{length-set}
use Rattle.enc_opcodes.specs.Sound.{begins_at}
use Rattle.enc_edit_list.specs.Sizes.{placed}
use Rattle.enc_rules.proofs.InstructionsPlaced.{length_front, marked_more, marked_all}
use Rattle.enc_rules.proofs.instructions.marks_of.Goals as goal

pub index_mut-requires : goal.index_mut-requires
index_mut-requires c = omega (arith, length_front c.loop-rest.rest.now c.instr-item.result c.in-len1-up.len_at_least c.instr-item.is, c.loop-rest.invariant.end, c.loop-rest.invariant.many, c.size_of-size.ensures.size, c.size_of-size.ensures.some)

pub loop-rest-preserved : goal.loop-rest-preserved
loop-rest-preserved c =
    let front = length_front c.loop-rest.rest.now c.instr-item.result c.in-len1-up.len_at_least c.instr-item.is in
    let low : c.loop-rest.at < length c.loop-rest.marks.items = omega (arith, front, c.loop-rest.invariant.end, c.loop-rest.invariant.many, c.size_of-size.ensures.size, c.size_of-size.ensures.some) in
    record {
      many = length-set c.loop-rest.marks.items c.loop-rest.at _ ∙ c.loop-rest.invariant.many;
      marked = λ t. rw c.size_of-size.ensures.size (marked_more c.loop-rest.marks.items c.loop-rest.at t (begins_at (placed 0 c.args.code.now) t) c.loop-rest.rest.now c.instr-item.result low c.in-len1-up.len_at_least c.instr-item.is (c.loop-rest.invariant.marked t));
      end = omega (arith, front, c.loop-rest.invariant.end, c.size_of-size.ensures.size);
    }

pub returns : goal.returns
returns c = λ t. marked_all c.loop-rest.marks.items c.loop-rest.at t (begins_at (placed 0 c.args.code.now) t) c.loop-rest.rest.now c.in_default.len_below (c.loop-rest.invariant.marked t)
