use Rattle.std.proofs.Common.{◌+◌, ◌-◌, arith}
use Rattle.enc_unwind.proofs.Found.{clause_found, clause_passed, no_clause}
use Rattle.enc_unwind.proofs.walk.first_in.Goals as goal

pub returns-then-passes : goal.returns-then-passes
returns-then-passes g c =
    let s = c.args.section.now in
    clause_found (g.T.ClauseTest.test c.args.test.now) (c.args.first + c.loop-i.i) s.fat (s.count - c.loop-i.i) (s.count - (c.loop-i.i + 1)) c.loop-i.rest.now c.clause_front.result _
    (omega (arith, c.loop-i-test.true)) c.clause_front.ensures c.if-passes.ensures c.loop-i.invariant

pub loop-i-preserved : goal.loop-i-preserved
loop-i-preserved g c =
    let s = c.args.section.now in
    clause_passed (g.T.ClauseTest.test c.args.test.now) (c.args.first + c.loop-i.i) (c.args.first + (c.loop-i.i + 1)) s.fat (s.count - c.loop-i.i) (s.count - (c.loop-i.i + 1)) c.clause_size.result c.loop-i.rest.now c.rest_at-rest.result.now c.clause_front.result _
    (omega (arith, c.loop-i-test.true)) (omega arith) c.clause_size.ensures.size c.rest_at-rest.ensures c.clause_front.ensures c.if-passes.ensures c.loop-i.invariant

pub returns : goal.returns
returns g c =
    let s = c.args.section.now in
    no_clause (g.T.ClauseTest.test c.args.test.now) (c.args.first + c.loop-i.i) s.fat (s.count - c.loop-i.i) c.loop-i.rest.now _ (omega (arith, c.loop-i-test.false)) c.loop-i.invariant
