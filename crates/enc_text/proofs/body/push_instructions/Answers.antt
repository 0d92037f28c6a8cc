use Rattle.enc_il.specs.Seen.{instr_seen}
use Rattle.enc_il.proofs.Starts.{fewer_left}
use Rattle.enc_text.proofs.BodyLists.{instruction_more, instruction_none}
use Rattle.enc_text.proofs.body.push_instructions.Goals as goal

pub loop-instr-smaller : goal.loop-instr-smaller
loop-instr-smaller g c = fewer_left c.args.code.now.code.now c.loop-instr.at c.in-Some.end (instr_seen (c.in-Some.instr, c.in-Some.end)).0 c.in-Some.ensures.instr

pub loop-instr-preserved : goal.loop-instr-preserved
loop-instr-preserved g c =
    instruction_more (g.V.ModuleView.users c.args.view.now) c.args.code.now.code.now c.loop-instr.at c.in-Some.end (instr_seen (c.in-Some.instr, c.in-Some.end)).0 _ _ _ c.in-Some.ensures.instr c.in_ok-push_instruction.ensures c.loop-instr.invariant

pub returns : goal.returns
returns g c = instruction_none (g.V.ModuleView.users c.args.view.now) c.args.code.now.code.now c.loop-instr.at _ _ c.in_default.ensures.instr c.loop-instr.invariant
