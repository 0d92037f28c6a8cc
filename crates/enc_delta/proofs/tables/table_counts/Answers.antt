use Rattle.std.proofs.Common.{ℕ, get_or, sym, ◌∙◌, arith}
use Rattle.std.specs.Prelude.{◌==◌}
use Rattle.std.proofs.lemmas.List.{get_or-replicate, length-replicate, length-set, take_all}
use Rattle.std.proofs.lemmas.List.Sums.{length-filter}
use Rattle.enc_base.specs.declared.token.Token.{Token}
use Rattle.enc_delta.proofs.Counters.{counter_more, counter_room, same_table, other_table}
use Rattle.enc_delta.proofs.tables.table_counts.Goals as goal

pub loop-i-init : goal.loop-i-init
loop-i-init c = (λ t h. get_or-replicate 256 t 0 0 h, length-replicate {A = ℕ} 256 0)

pub overflow_add-counts : goal.overflow_add-counts
overflow_add-counts c =
    let token = get_or c.args.tokens.now c.loop-i.i (record { table = 0; row = 0 }) in
    let few = counter_room (λ (x : Token). x.table == token.table) c.args.tokens.now c.loop-i.i (get_or c.loop-i.counts token.table 0) (omega arith) (c.loop-i.invariant.0 token.table (omega (arith, c.loop-i-test.element_fits))) in
    omega (arith, few)

pub loop-i-preserved : goal.loop-i-preserved
loop-i-preserved c =
    let token = get_or c.args.tokens.now c.loop-i.i (record { table = 0; row = 0 }) in (
      counter_more (λ t (x : Token). x.table == t) c.args.tokens.now c.loop-i.i (record { table = 0; row = 0 }) c.loop-i.counts token.table (omega arith) c.loop-i.invariant.1 (omega (arith, c.loop-i-test.element_fits)) (same_table token.table) (λ t ne. other_table token.table t ne) c.loop-i.invariant.0,
      length-set c.loop-i.counts token.table _ ∙ c.loop-i.invariant.1,
    )

pub returns : goal.returns
returns c = λ t h.
    let all = take_all c.loop-i.i c.args.tokens.now c.loop-i-test.false in
    let counted = c.loop-i.invariant.0 t h in
    (rw all at counted) ∙ sym (length-filter (λ (x : Token). x.table == t) c.args.tokens.now)
