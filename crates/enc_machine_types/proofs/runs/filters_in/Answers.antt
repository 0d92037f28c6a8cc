use Rattle.std.proofs.Common.{◌+◌, ◌-◌, drop, sym, ap, ◌∙◌, arith}
use Rattle.enc_machine_types.specs.Filters.{filters}
use Rattle.enc_machine_types.proofs.FilterClauses.{clause_filters, clause_passes, no_clauses, kind_filters, kind_passes}
use Rattle.enc_machine_types.proofs.runs.filters_in.Goals as goal

pub returns-then-clause_front-eq1 : goal.returns-then-clause_front-eq1
returns-then-clause_front-eq1 c =
    let s = c.args.section.now in
    sym (clause_filters filters s.fat (s.count - c.loop-i.i) c.loop-i.rest.now (omega (arith, c.loop-i-test.true)) (kind_filters c.clause_front.result _ c.clause_front.ensures c.if-clause_front-eq1.true))
    ∙ c.loop-i.invariant

pub loop-i-preserved : goal.loop-i-preserved
loop-i-preserved c =
    let s = c.args.section.now in
    sym (clause_passes filters s.fat (s.count - c.loop-i.i) (s.count - (c.loop-i.i + 1)) c.loop-i.rest.now c.rest_at-rest.result.now (omega (arith, c.loop-i-test.true)) (c.rest_at-rest.ensures ∙ ap (λ n. drop n c.loop-i.rest.now) c.clause_size.ensures.size) (kind_passes c.clause_front.result _ c.clause_front.ensures c.if-clause_front-eq1.false))
    ∙ c.loop-i.invariant

pub returns : goal.returns
returns c =
    let s = c.args.section.now in
    sym (no_clauses filters s.fat (s.count - c.loop-i.i) c.loop-i.rest.now (omega (arith, c.loop-i-test.false)))
    ∙ c.loop-i.invariant
