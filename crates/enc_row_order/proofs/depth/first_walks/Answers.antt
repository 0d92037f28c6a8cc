use Rattle.std.proofs.Common.{◌≡◌, ℕ, ◌<◌, ◌+◌, ◌∙◌, ap, map, sym, subst, arith}
use Rattle.enc_base.specs.Token.{nth_row}
use Rattle.enc_plain.specs.Sound.{row_count}
use Rattle.enc_plain.proofs.CellsOf.{token_there}
use Rattle.enc_rows.specs.Sums.{below}
use Rattle.enc_row_order.specs.Walks.{AreFirst, ended}
use Rattle.enc_base.specs.Tables.{nested_class}
use Rattle.enc_row_order.proofs.References.{row_here, nested_kind, enclosing_kind, nested_type}
use Rattle.enc_row_order.proofs.FirstWalks.{first_begins, first_notes, first_ends, written_back}
use Rattle.enc_row_order.proofs.depth.first_walks.Goals as goal

pub refer-nested-requires-clause-row : goal.refer-nested-requires-clause-row
refer-nested-requires-clause-row g c =
    row_here (g.V.ModuleView.meaning c.args.view.now) nested_class c.loop-k.k (omega (arith, c.loop-k-test.true, c.count-k-end.ensures.count))

pub refer-nested-requires-clause-kind : goal.refer-nested-requires-clause-kind
refer-nested-requires-clause-kind g c = nested_kind

pub refer-enclosing-requires-clause-row : goal.refer-enclosing-requires-clause-row
refer-enclosing-requires-clause-row g c =
    row_here (g.V.ModuleView.meaning c.args.view.now) nested_class c.loop-k.k (omega (arith, c.loop-k-test.true, c.count-k-end.ensures.count))

pub refer-enclosing-requires-clause-kind : goal.refer-enclosing-requires-clause-kind
refer-enclosing-requires-clause-kind g c = enclosing_kind

pub loop-k-init : goal.loop-k-init
loop-k-init g c =
    first_begins (g.V.ModuleView.meaning c.args.view.now) _ (c.in_ok-walks.ensures ∙ ap (λ n. map (λ (k : ℕ). ended) (below n)) c.count.ensures.count)

pub loop-k-preserved : goal.loop-k-preserved
loop-k-preserved g c =
    let m = g.V.ModuleView.meaning c.args.view.now in
    let row = nth_row nested_class c.loop-k.k in
    let low : c.loop-k.k < row_count m nested_class = omega (arith, c.loop-k-test.true, c.count-k-end.ensures.count) in
    let back = written_back c.loop-k.walks.len c.note_first.new.walks c.deref_mut.result.now c.loop-k.walks.items _ _
    c.note_first.ensures c.deref_mut.ensures.value c.deref_mut.ensures.len in
    subst (AreFirst m (c.loop-k.k + 1)) (sym back)
    (first_notes m c.loop-k.k c.loop-k.walks.items _ _ c.loop-k.invariant
    (token_there m row 0 _ c.refer-nested.ensures) (token_there m row 1 _ c.refer-enclosing.ensures)
    (nested_type m c.loop-k.k _ c.requires.sound low c.refer-nested.ensures))

pub returns : goal.returns
returns g c =
    let m = g.V.ModuleView.meaning c.args.view.now in
    let all : c.loop-k.k ≡ row_count m nested_class = omega (arith, c.loop-k-test.false, c.loop-k.auto.k-end, c.count-k-end.ensures.count) in
    first_ends m _ (subst (λ k. AreFirst m k c.loop-k.walks.items) all c.loop-k.invariant)
