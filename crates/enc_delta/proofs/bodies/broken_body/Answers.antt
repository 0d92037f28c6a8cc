use Rattle.std.proofs.Common.{refl, sym, ◌∙◌, arith}
use Rattle.enc_base.proofs.First.{first_found, first_more}
use Rattle.enc_delta.specs.Delta.{of_table, listed}
use Rattle.enc_delta.specs.Rules.{broken_body, broken_body_at}
use Rattle.enc_delta.proofs.Runs.{run_next, next_end, past_bodies, empty_of}
use Rattle.enc_delta.proofs.bodies.broken_body.Goals as goal

pub broken_body_at-requires-clause-token : goal.broken_body_at-requires-clause-token
broken_body_at-requires-clause-token g c = (run_next 6 c.next_of.result.now c.loop-r.rest.now (of_table 6 (listed c.args.context.now.delta)) c.loop-r.r (record { table = 0; row = 0 }) c.in-len1-up.len_at_least c.next_of.ensures.first c.next_of.ensures.same c.loop-r.invariant.rest).0

pub loop-r-preserved : goal.loop-r-preserved
loop-r-preserved g c = record {
  none = first_more (broken_body_at c.args.context.now.chain c.args.context.now.delta) c.loop-r.r c.loop-r.invariant.none ∙ sym c.in-Ok-None.ensures.place ∙ c.in-Ok-None.field-0-is;
  rest = (run_next 6 c.next_of.result.now c.loop-r.rest.now (of_table 6 (listed c.args.context.now.delta)) c.loop-r.r (record { table = 0; row = 0 }) c.in-len1-up.len_at_least c.next_of.ensures.first c.next_of.ensures.same c.loop-r.invariant.rest).1;
  known = c.in-Ok-None.ensures.known;
}

pub returns-in_default : goal.returns-in_default
unfolding broken_body
returns-in_default g c = sym (past_bodies c.args.context.now.chain c.args.context.now.delta c.loop-r.r _ (rw (← c.own_count-r-end.ensures.count) (omega arith)) (next_end (of_table 6 (listed c.args.context.now.delta)) c.loop-r.r (empty_of 6 c.next_of.result.now c.in_default.len_below ∙ c.next_of.ensures.same ∙ c.loop-r.invariant.rest)) c.loop-r.invariant.none)

pub returns-in-Ok-Some : goal.returns-in-Ok-Some
unfolding broken_body
returns-in-Ok-Some g c = first_found _ _ c.loop-r.r _ (rw (← c.own_count-r-end.ensures.count) (omega arith)) c.loop-r.invariant.none (sym c.in-Ok-Some.field-0-is ∙ c.in-Ok-Some.ensures.place) refl
