use Rattle.std.proofs.Common.{◌+◌, ◌-◌, drop, sym, ap, ◌∙◌, arith}
use Rattle.std.specs.Prelude.{slice_index}
use Rattle.enc_opcodes.specs.Body.{clause_is_good}
use Rattle.enc_il.specs.Judged.{mark_at}
use Rattle.enc_il.proofs.Goods.{bad_clause, good_clause, no_clauses}
use Rattle.enc_il.proofs.judge.are_good_in.Goals as goal

pub returns-then-not-clause_is_good : goal.returns-then-not-clause_is_good
returns-then-not-clause_is_good c =
    let s = c.args.section.now in
    sym (bad_clause (clause_is_good (slice_index c.args.counts.now.rows) (mark_at c.args.marks.now) c.args.size) s.fat (s.count - c.loop-i.i) c.loop-i.rest.now c.clause_front.result (omega (arith, c.loop-i-test.true)) c.clause_front.ensures (sym c.if-not-clause_is_good.ensures))
    ∙ c.loop-i.invariant

pub loop-i-preserved : goal.loop-i-preserved
loop-i-preserved c =
    let s = c.args.section.now in
    sym (good_clause (clause_is_good (slice_index c.args.counts.now.rows) (mark_at c.args.marks.now) c.args.size) s.fat (s.count - c.loop-i.i) (s.count - (c.loop-i.i + 1)) c.loop-i.rest.now c.bytes_behind-rest.result.now c.clause_front.result (omega (arith, c.loop-i-test.true)) (c.bytes_behind-rest.ensures ∙ ap (λ n. drop n c.loop-i.rest.now) c.clause_size.ensures.size) c.clause_front.ensures (sym c.if-not-clause_is_good.ensures))
    ∙ c.loop-i.invariant

pub returns : goal.returns
returns c =
    let s = c.args.section.now in
    sym (no_clauses (clause_is_good (slice_index c.args.counts.now.rows) (mark_at c.args.marks.now) c.args.size) s.fat (s.count - c.loop-i.i) c.loop-i.rest.now (omega (arith, c.loop-i-test.false)))
    ∙ c.loop-i.invariant
