use Rattle.std.proofs.Common.{ℕ, get_or, sym, ◌∙◌, arith}
use Rattle.std.specs.Prelude.{◌==◌, ◌&&◌}
use Rattle.std.proofs.lemmas.List.{get_or-replicate, length-replicate, length-set, take_all}
use Rattle.enc_base.specs.declared.token.Token.{Token}
use Rattle.enc_delta.specs.Rules.{is_insert, inserts}
use Rattle.enc_delta.proofs.Counters.{counter_more, counter_same, counter_room, test_yes, test_other, test_not}
use Rattle.enc_delta.proofs.known.inserts_of.Goals as goal
use Rattle.enc_delta.proofs.known.inserts_of.Goals.{then-is_insert, else-is_insert}

pub loop-i-init : goal.loop-i-init
loop-i-init g c = (λ t h. get_or-replicate 256 t 0 0 h, length-replicate {A = ℕ} 256 0)

pub overflow_add-counts : goal.overflow_add-counts
overflow_add-counts g c =
    let token = get_or c.args.tokens.now c.loop-i.i (record { table = 0; row = 0 }) in
    let few = counter_room (λ (x : Token). x.table == token.table && is_insert (g.C.ChainView.chain c.args.chain.now) x) c.args.tokens.now c.loop-i.i (get_or c.loop-i.counts token.table 0) (omega arith) (c.loop-i.invariant.0 token.table (omega (arith, c.if-is_insert.element_fits))) in
    omega (arith, few)

pub loop-i-preserved : goal.loop-i-preserved
loop-i-preserved g c =
    let token = get_or c.args.tokens.now c.loop-i.i (record { table = 0; row = 0 }) in
    let chain = g.C.ChainView.chain c.args.chain.now in
    elim c.if-is_insert.branch [
      | then-is_insert w ↦ rw w.counts-is (
        counter_more (λ t (x : Token). x.table == t && is_insert chain x) c.args.tokens.now c.loop-i.i (record { table = 0; row = 0 }) c.loop-i.counts token.table (omega arith) c.loop-i.invariant.1 (omega (arith, w.if-is_insert.element_fits)) (test_yes token.table (is_insert chain token) (sym c.is_insert.ensures ∙ w.if-is_insert.true)) (λ t ne. test_other token.table t (is_insert chain token) ne) c.loop-i.invariant.0,
        length-set c.loop-i.counts token.table _ ∙ c.loop-i.invariant.1,
      )
      | else-is_insert w ↦ rw w.counts-is (
        counter_same (λ t (x : Token). x.table == t && is_insert chain x) c.args.tokens.now c.loop-i.i (record { table = 0; row = 0 }) c.loop-i.counts (omega arith) (λ t. test_not token.table t (is_insert chain token) (sym c.is_insert.ensures ∙ w.if-is_insert.false)) c.loop-i.invariant.0,
        c.loop-i.invariant.1,
      )
    ]

pub returns : goal.returns
unfolding inserts
returns g c = λ t h.
    let all = take_all c.loop-i.i c.args.tokens.now c.loop-i-test.false in
    let counted = c.loop-i.invariant.0 t h in
    rw all at counted
