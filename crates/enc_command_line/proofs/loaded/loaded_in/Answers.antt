use Rattle.std.proofs.Common.{rules, ℕ, ◌+◌, ◌%◌, ◌^◌, ap, ◌∙◌}
use Rattle.enc_il.specs.Seen.{instr_seen}
use Rattle.enc_il.proofs.Starts.{fewer_left}
use Rattle.enc_command_line.proofs.Sums.{instruction_more, instruction_none, summed}
use Rattle.enc_command_line.proofs.loaded.loaded_in.Goals as goal

pub loop-instr-smaller : goal.loop-instr-smaller
loop-instr-smaller c = fewer_left c.args.code.now.code.now c.loop-instr.at c.in-Some.end (instr_seen (c.in-Some.instr, c.in-Some.end)).0 c.in-Some.ensures.instr

pub loop-instr-preserved : goal.loop-instr-preserved
loop-instr-preserved c = instruction_more c.args.code.now.code.now c.loop-instr.at c.in-Some.end (instr_seen (c.in-Some.instr, c.in-Some.end)).0 c.loop-instr.sum _ c.in-Some.ensures.instr (ap (λ (n : ℕ). (c.loop-instr.sum + n) % 2 ^ 64) c.loaded-sum.ensures) ∙ c.loop-instr.invariant

pub returns : goal.returns
returns c = summed c.loop-instr.sum _ _ (search rules) (instruction_none c.args.code.now.code.now c.loop-instr.at c.in_default.ensures.instr) c.loop-instr.invariant
