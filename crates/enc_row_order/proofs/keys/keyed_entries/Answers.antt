use Rattle.std.proofs.Common.{◌≡◌, ◌∙◌, arith}
use Rattle.enc_plain.specs.Sound.{row_count}
use Rattle.enc_schema.specs.Schema.{list_at}
use Rattle.enc_row_order.specs.Orders.{order_key}
use Rattle.enc_row_order.proofs.References.{row_here}
use Rattle.enc_row_order.proofs.KeysOf.{no_entries, more_entries, all_entries}
use Rattle.enc_row_order.proofs.keys.keyed_entries.Goals as goal

pub loop-n-init : goal.loop-n-init
loop-n-init g c = no_entries (order_key (list_at c.args.order.now) (g.V.ModuleView.meaning c.args.view.now) c.args.table) _ c.in_ok-entries.ensures.items

pub key-requires-clause-row : goal.key-requires-clause-row
key-requires-clause-row g c =
    row_here (g.V.ModuleView.meaning c.args.view.now) c.args.table c.loop-n.n (omega (arith, c.loop-n-test.true, c.count-n-end.ensures.count))

pub loop-n-preserved : goal.loop-n-preserved
loop-n-preserved g c =
    c.in_ok-push.ensures.items
    ∙ more_entries (order_key (list_at c.args.order.now) (g.V.ModuleView.meaning c.args.view.now) c.args.table) c.loop-n.n c.loop-n.entries.items _
    c.loop-n.invariant c.key.ensures

pub returns : goal.returns
returns g c =
    let m = g.V.ModuleView.meaning c.args.view.now in
    let all : c.loop-n.n ≡ row_count m c.args.table = omega (arith, c.loop-n-test.false, c.loop-n.auto.n-end, c.count-n-end.ensures.count) in
    all_entries m c.args.table (order_key (list_at c.args.order.now) m c.args.table) c.loop-n.n c.loop-n.entries.items c.loop-n.invariant all
