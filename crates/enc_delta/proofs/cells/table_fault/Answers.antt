use Rattle.std.proofs.Common.{refl, sym, ◌∙◌, arith}
use Rattle.enc_base.proofs.First.{first_found, first_more}
use Rattle.enc_delta.proofs.Runs.{run_next, next_end, past_tokens, empty_of}
use Rattle.enc_delta.specs.Delta.{of_table, listed}
use Rattle.enc_delta.specs.Rules.{table_fault, row_fault}
use Rattle.enc_delta.specs.Cells.{speaks}
use Rattle.enc_delta.proofs.cells.table_fault.Goals as goal

pub row_fault-requires-clause-token : goal.row_fault-requires-clause-token
row_fault-requires-clause-token g c =
    (run_next c.args.table c.next_of.result.now c.loop-r.rest.now (of_table c.args.table (listed c.args.context.now.delta)) c.loop-r.r (record { table = 0; row = 0 }) c.in-len1-up.len_at_least c.next_of.ensures.first c.next_of.ensures.same c.loop-r.invariant.rest).0

pub loop-r-preserved : goal.loop-r-preserved
loop-r-preserved g c = record {
  none = first_more (row_fault c.args.context.now.chain c.args.context.now.delta (speaks c.args.rule) c.args.table) c.loop-r.r c.loop-r.invariant.none ∙ sym c.row_fault.ensures ∙ c.in-None.is;
  rest = (run_next c.args.table c.next_of.result.now c.loop-r.rest.now (of_table c.args.table (listed c.args.context.now.delta)) c.loop-r.r (record { table = 0; row = 0 }) c.in-len1-up.len_at_least c.next_of.ensures.first c.next_of.ensures.same c.loop-r.invariant.rest).1;
}

pub returns-in_default : goal.returns-in_default
unfolding table_fault
returns-in_default g c =
    sym (past_tokens c.args.context.now.chain c.args.context.now.delta (speaks c.args.rule) c.args.table c.loop-r.r _ (rw (← c.own_count-r-end.ensures.count) (omega arith)) (next_end (of_table c.args.table (listed c.args.context.now.delta)) c.loop-r.r (empty_of c.args.table c.next_of.result.now c.in_default.len_below ∙ c.next_of.ensures.same ∙ c.loop-r.invariant.rest)) c.loop-r.invariant.none)

pub returns-in-Some : goal.returns-in-Some
unfolding table_fault
returns-in-Some g c = first_found _ _ c.loop-r.r _ (rw (← c.own_count-r-end.ensures.count) (omega arith)) c.loop-r.invariant.none (sym c.in-Some.is ∙ c.row_fault.ensures) refl
