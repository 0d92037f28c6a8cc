use Rattle.std.proofs.Common.{◌∙◌, sym, arith}
use Rattle.std.proofs.lemmas.List.{nil_from_length}
use Rattle.enc_jobs.specs.Code.{instr_placed}
use Rattle.enc_jobs.proofs.Loops.{one_more, one_refused, none_left}
use Rattle.enc_jobs.proofs.code.place.Goals as goal

pub returns-in_err-place_instr : goal.returns-in_err-place_instr
returns-in_err-place_instr c =
    grind (arith, one_refused (instr_placed c.args.starts.now) c.loop-instr.instr-iterator.rest.items c.next.new.self.rest.items c.in-Some.instr c.loop-instr.list c.in_err-place_instr.field-0.0 _ c.in-Some.ensures.steps.0 c.in_err-place_instr.ensures c.loop-instr.invariant)

pub loop-instr-preserved : goal.loop-instr-preserved
loop-instr-preserved c =
    rw c.in_ok-push.ensures.ok (sym (one_more (instr_placed c.args.starts.now) c.loop-instr.instr-iterator.rest.items c.next.new.self.rest.items c.in-Some.instr c.in_ok-place_instr.field-0 c.loop-instr.list c.in-Some.ensures.steps.0 c.in_ok-place_instr.ensures) ∙ c.loop-instr.invariant)

pub returns : goal.returns
returns c =
    let rest = c.loop-instr.instr-iterator.rest in
    none_left (instr_placed c.args.starts.now) rest.items c.loop-instr.list _ (nil_from_length rest.items (omega (arith, rest.ok.0, c.in-None.ensures.steps.0))) c.loop-instr.invariant
