use Rattle.std.proofs.Common.{◌+◌, ◌∙◌, sym, arith}
use Rattle.enc_jobs.proofs.Places.{places_more, size_more, within_is, offsets_done}
use Rattle.enc_opcodes.specs.Sound.{instruction_size}
use Rattle.enc_edit_list.specs.Sizes.{instr_meant}
use Rattle.enc_jobs.proofs.code.offsets_in.Goals as goal

pub loop-instr-preserved : goal.loop-instr-preserved
loop-instr-preserved c =
    let behind = within_is (c.loop-instr.size + instruction_size (instr_meant c.instr-item.result)) c.in_ok-size.size c.in_ok-size.ensures in
    rw (c.in_ok-push.ensures.ok, behind.0) (
      sym (places_more c.args.code.now c.loop-instr.instr-index c.loop-instr.size c.instr-item.result c.loop-instr.starts c.loop-instr-test.true c.instr-item.is) ∙ c.loop-instr.invariant.0,
      sym (size_more c.args.code.now c.loop-instr.instr-index c.loop-instr.size c.instr-item.result c.loop-instr-test.true c.instr-item.is) ∙ c.loop-instr.invariant.1,
      behind.1,
    )

pub returns : goal.returns
returns c = offsets_done c.args.code.now c.loop-instr.instr-index c.loop-instr.size c.loop-instr.starts (omega arith) c.loop-instr.invariant.2 c.loop-instr.invariant.0 c.loop-instr.invariant.1
