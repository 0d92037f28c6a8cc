use Rattle.std.proofs.Common.{◌∙◌, sym, ap, arith, length, map, ◌≤◌}
use Rattle.std.specs.Prelude.{option_map}
use Rattle.std.proofs.lemmas.List.{length-map}
use Rattle.std.proofs.lemmas.Option.{slice_get-map}
use Rattle.enc_watch.specs.Audience.{Watching, is_kind, is_of_kind}
use Rattle.enc_watch.proofs.Taken.{none_of_none, none_of_more, first_at, others_at, first_past, others_past, got_at}
use Rattle.enc_watch.proofs.handed.place_of.Goals as goal

pub loop-i-init : goal.loop-i-init
loop-i-init g c =
    let seen : g.row.W.Denot → Watching = g.W.Watcher.watching in
    none_of_none (is_of_kind c.args.kind) (map seen c.args.watchers.now)

pub returns-then-is_kind-clause-first : goal.returns-then-is_kind-clause-first
returns-then-is_kind-clause-first g c =
    let seen : g.row.W.Denot → Watching = g.W.Watcher.watching in
    let got = got_at c.args.watchers.now c.loop-i.i c.index-watchers-i.result c.loop-i-test.true c.index-watchers-i.is in
    let there = slice_get-map seen c.args.watchers.now c.loop-i.i ∙ ap (option_map seen) got in
    let has = ap (λ k. is_kind k c.args.kind) (sym c.kind.ensures.kind) ∙ sym c.is_kind.ensures ∙ c.if-is_kind.true in
    first_at (is_of_kind c.args.kind) (map seen c.args.watchers.now) c.loop-i.i (seen c.index-watchers-i.result) c.loop-i.invariant there has ∙ sym there

pub returns-then-is_kind-clause-rest : goal.returns-then-is_kind-clause-rest
returns-then-is_kind-clause-rest g c =
    let seen : g.row.W.Denot → Watching = g.W.Watcher.watching in
    let got = got_at c.args.watchers.now c.loop-i.i c.index-watchers-i.result c.loop-i-test.true c.index-watchers-i.is in
    let there = slice_get-map seen c.args.watchers.now c.loop-i.i ∙ ap (option_map seen) got in
    let has = ap (λ k. is_kind k c.args.kind) (sym c.kind.ensures.kind) ∙ sym c.is_kind.ensures ∙ c.if-is_kind.true in
    others_at (is_of_kind c.args.kind) (map seen c.args.watchers.now) c.loop-i.i (seen c.index-watchers-i.result) c.loop-i.invariant there has

pub loop-i-preserved : goal.loop-i-preserved
loop-i-preserved g c =
    let seen : g.row.W.Denot → Watching = g.W.Watcher.watching in
    let got = got_at c.args.watchers.now c.loop-i.i c.index-watchers-i.result c.loop-i-test.true c.index-watchers-i.is in
    let there = slice_get-map seen c.args.watchers.now c.loop-i.i ∙ ap (option_map seen) got in
    let hasnt = ap (λ k. is_kind k c.args.kind) (sym c.kind.ensures.kind) ∙ sym c.is_kind.ensures ∙ c.if-is_kind.false in
    none_of_more (is_of_kind c.args.kind) (map seen c.args.watchers.now) c.loop-i.i (seen c.index-watchers-i.result) c.loop-i.invariant there hasnt

pub returns-clause-none : goal.returns-clause-none
returns-clause-none g c =
    let seen : g.row.W.Denot → Watching = g.W.Watcher.watching in
    let n = length-map c.args.watchers.now seen in
    let long : length (map seen c.args.watchers.now) ≤ c.loop-i.i = omega (arith, n, c.loop-i-test.false) in
    first_past (is_of_kind c.args.kind) (map seen c.args.watchers.now) c.loop-i.i c.loop-i.invariant long

pub returns-clause-all : goal.returns-clause-all
returns-clause-all g c =
    let seen : g.row.W.Denot → Watching = g.W.Watcher.watching in
    let n = length-map c.args.watchers.now seen in
    let long : length (map seen c.args.watchers.now) ≤ c.loop-i.i = omega (arith, n, c.loop-i-test.false) in
    others_past (is_of_kind c.args.kind) (map seen c.args.watchers.now) c.loop-i.i c.loop-i.invariant long
