use Rattle.std.proofs.Common.{ℕ, sym, ◌∙◌}
use Rattle.enc_opcodes.specs.Instruction.{Instruction}
use Rattle.enc_opcodes.specs.Body.{text_is_there, texts_are_there}
use Rattle.enc_il.specs.Seen.{instr_seen}
use Rattle.enc_il.proofs.Starts.{fewer_left, more_good, one_bad, none_left}
use Rattle.enc_il.proofs.texts.texts_are_there.Goals as goal

pub returns-then-not-text_is_there : goal.returns-then-not-text_is_there
unfolding texts_are_there
returns-then-not-text_is_there g c =
    sym (one_bad (λ (x : ℕ × Instruction ℕ). text_is_there (g.T.UserTexts.texts c.args.texts.now) x.1.arg) c.args.code.now.code.now c.loop-instr.at c.in-Some.end (instr_seen (c.in-Some.instr, c.in-Some.end)).0 c.in-Some.ensures.instr (sym (c.if-not-text_is_there.ensures c.in-Some.end)))
    ∙ c.loop-instr.invariant

pub loop-instr-smaller : goal.loop-instr-smaller
loop-instr-smaller g c = fewer_left c.args.code.now.code.now c.loop-instr.at c.in-Some.end (instr_seen (c.in-Some.instr, c.in-Some.end)).0 c.in-Some.ensures.instr

pub loop-instr-preserved : goal.loop-instr-preserved
loop-instr-preserved g c =
    sym (more_good (λ (x : ℕ × Instruction ℕ). text_is_there (g.T.UserTexts.texts c.args.texts.now) x.1.arg) c.args.code.now.code.now c.loop-instr.at c.in-Some.end (instr_seen (c.in-Some.instr, c.in-Some.end)).0 c.in-Some.ensures.instr (sym (c.if-not-text_is_there.ensures c.in-Some.end)))
    ∙ c.loop-instr.invariant

pub returns : goal.returns
unfolding texts_are_there
returns g c = sym (none_left (λ (x : ℕ × Instruction ℕ). text_is_there (g.T.UserTexts.texts c.args.texts.now) x.1.arg) c.args.code.now.code.now c.loop-instr.at c.in_default.ensures.instr) ∙ c.loop-instr.invariant
