use Rattle.std.proofs.Common.{◌∙◌, arith}
use Rattle.std.proofs.lemmas.List.{length-set}
use Rattle.enc_il.specs.Seen.{instr_seen}
use Rattle.enc_il.proofs.Starts.{behind, fewer_left, one_marked, all_marked}
use Rattle.enc_il.proofs.marks.starts_of.Goals as goal

pub index_mut-requires : goal.index_mut-requires
index_mut-requires c =
    let h = behind c.args.code.now.code.now c.loop-end.at c.in-Some.end (instr_seen (c.in-Some.field-0-0, c.in-Some.end)).0 c.in-Some.ensures.instr in
    omega (arith, h.0, h.1, c.loop-end.invariant.many, c.loop-end.marks.ok.0)

pub loop-end-smaller : goal.loop-end-smaller
loop-end-smaller c =
    fewer_left c.args.code.now.code.now c.loop-end.at c.in-Some.end (instr_seen (c.in-Some.field-0-0, c.in-Some.end)).0 c.in-Some.ensures.instr

pub loop-end-preserved : goal.loop-end-preserved
loop-end-preserved c =
    let h = behind c.args.code.now.code.now c.loop-end.at c.in-Some.end (instr_seen (c.in-Some.field-0-0, c.in-Some.end)).0 c.in-Some.ensures.instr in
    record {
      many = length-set c.loop-end.marks.items c.loop-end.at _ ∙ c.loop-end.invariant.many;
      marked = one_marked c.args.code.now.code.now c.loop-end.at c.in-Some.end (instr_seen (c.in-Some.field-0-0, c.in-Some.end)).0 c.loop-end.marks.items
          c.in-Some.ensures.instr (omega (arith, h.0, h.1, c.loop-end.invariant.many)) c.loop-end.invariant.marked;
    }

pub returns : goal.returns
returns c = all_marked c.args.code.now.code.now c.loop-end.at c.loop-end.marks.items c.in_default.ensures.instr c.loop-end.invariant.marked
