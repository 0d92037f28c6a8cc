use Rattle.std.proofs.Common.{Err}
use Rattle.enc_il.specs.Seen.{instr_seen}
use Rattle.enc_il.proofs.Starts.{fewer_left}
use Rattle.enc_opcodes.specs.Body.{body_of}
use Rattle.enc_rewriter.proofs.UserTexts.{next_left, past_left, all_left}
use Rattle.enc_rewriter.proofs.users.add_named.Goals as goal

pub loop-instr-smaller : goal.loop-instr-smaller
loop-instr-smaller g c = fewer_left c.args.code.now.code.now c.loop-instr.at c.in-Some.end (instr_seen (c.in-Some.instr, c.in-Some.end)).0 c.in-Some.ensures.instr

pub loop-instr-preserved : goal.loop-instr-preserved
loop-instr-preserved g c =
    next_left (g.V.ModuleView.users c.args.view.now) c.args.code.now.code.now c.loop-instr.at c.in-Some.end (instr_seen (c.in-Some.instr, c.in-Some.end)).0 c.args.heaps.now c.loop-instr.heaps c.add_argument.new.heaps
    c.in-Some.ensures.instr c.loop-instr.invariant (c.in-Ok.ensures.filled c.in-Some.end)

pub returns-clause-filled : goal.returns-clause-filled
unfolding body_of
returns-clause-filled g c =
    all_left (g.V.ModuleView.users c.args.view.now) c.args.code.now.code.now c.loop-instr.at c.args.heaps.now c.loop-instr.heaps c.in_default.ensures.instr c.loop-instr.invariant

pub returns-in-Err-clause-past : goal.returns-in-Err-clause-past
unfolding body_of
returns-in-Err-clause-past g c =
    past_left (g.V.ModuleView.users c.args.view.now) c.args.code.now.code.now c.loop-instr.at c.in-Some.end (instr_seen (c.in-Some.instr, c.in-Some.end)).0 c.args.heaps.now c.loop-instr.heaps (Err c.in-Err.fault)
    c.in-Some.ensures.instr c.loop-instr.invariant (c.in-Err.ensures.past c.in-Some.end)
