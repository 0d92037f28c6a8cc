use Rattle.std.proofs.Common.{◌+◌, ◌-◌, drop, ap, ◌∙◌, arith}
use Rattle.enc_opcodes.specs.Body.{handler_meant}
use Rattle.enc_c.specs.Clauses.{clause_numbers}
use Rattle.enc_c.proofs.ClauseLists.{clause_more, clause_none}
use Rattle.enc_c.proofs.clauses.push_section.Goals as goal

pub loop-i-preserved : goal.loop-i-preserved
loop-i-preserved c =
    let s = c.args.section.now in
    clause_more s.fat (s.count - c.loop-i.i) (s.count - (c.loop-i.i + 1)) c.loop-i.rest.now _ c.numbers_of.result _ _ _ (omega (arith, c.loop-i-test.true))
    (c.rest_at-rest.ensures ∙ ap (λ n. drop n c.loop-i.rest.now) c.clause_size.ensures.size)
    (c.numbers_of.ensures ∙ ap (λ x. clause_numbers (handler_meant x)) c.clause_front.ensures) c.in_ok-push.ensures.items c.loop-i.invariant

pub returns : goal.returns
returns c =
    let s = c.args.section.now in
    clause_none s.fat (s.count - c.loop-i.i) c.loop-i.rest.now _ _ (omega (arith, c.loop-i-test.false)) c.loop-i.invariant
