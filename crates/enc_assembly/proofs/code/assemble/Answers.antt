use Rattle.std.proofs.Common.{◌∙◌}
use Rattle.enc_meta.specs.Built.{user_offset}
use Rattle.enc_assembly.proofs.Steps.{assembled_step, assembled_all, kept_at}
use Rattle.enc_assembly.proofs.code.assemble.Goals as goal

pub push_instr-requires-clause-kept : goal.push_instr-requires-clause-kept
push_instr-requires-clause-kept c = rw (c.loop-k.invariant.0) (kept_at c.args.heaps.now c.args.code.now c.loop-k.k c.instr_at-instr.result.now c.requires.kept c.instr_at-instr.ensures)

pub loop-k-preserved : goal.loop-k-preserved
loop-k-preserved c =
    let inv = c.loop-k.invariant in
    let step = assembled_step (user_offset c.args.heaps.now) c.args.code.now c.loop-k.end c.loop-k.k _ c.instr_at-instr.result.now c.loop-k.out.items _ c.instr_at-instr.ensures inv.1 inv.2 in
    (c.in-Ok.ensures.same ∙ inv.0, rw c.instruction_size.ensures.size step.0, rw (c.in-Ok.ensures.bytes, c.instruction_size.ensures.size, inv.0) step.1)

pub returns-clause-bytes : goal.returns-clause-bytes
returns-clause-bytes c = assembled_all (user_offset c.args.heaps.now) c.args.code.now c.loop-k.end c.loop-k.k c.loop-k.out.items _ c.loop-k-test.false c.loop-k.invariant.2
