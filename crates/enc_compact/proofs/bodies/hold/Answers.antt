use Rattle.std.proofs.Common.{arith}
use Rattle.enc_opcodes.specs.Body.{code_seen}
use Rattle.enc_schema.specs.Schema.{list_at}
use Rattle.enc_row_order.specs.Orders.{moved_by, new_order}
use Rattle.enc_compact.proofs.BodiesHeld.{code_at, held_says, none_holds, last_holds}
use Rattle.enc_compact.proofs.bodies.hold.Goals as goal

pub returns-in-None-clause-holds : goal.returns-in-None-clause-holds
returns-in-None-clause-holds g c b e =
    let m = g.V.ModuleView.meaning c.args.view.now in
    let texts = g.V.ModuleView.users c.args.view.now in
    none_holds (moved_by (new_order m)) texts c.args.held.now.items b c.in_ok-of.field-0 c.in-None.is
    (held_says m (list_at c.args.mover.now.order.now) texts _ (code_seen c.in-Some.code) c.in_ok-of.field-0 b c.requires.sound c.requires.order
    c.in-Some.ensures.texts c.in_ok-of.ensures (code_at _ texts c.code.result c.in-Some.code c.code.ensures.body c.in-Some.is) e)

pub returns-in_ok-push-in-Some-2-clause-holds : goal.returns-in_ok-push-in-Some-2-clause-holds
returns-in_ok-push-in-Some-2-clause-holds g c b e =
    let m = g.V.ModuleView.meaning c.args.view.now in
    let texts = g.V.ModuleView.users c.args.view.now in
    last_holds (moved_by (new_order m)) texts c.args.held.now.items c.push.new.self.items b c.in-Some-2.body c.in_ok-of.field-0 c.len.result c.in-Some-2.is
    c.in_ok-push-in-Some-2.ensures.items (omega (arith, c.len.ensures, c.push.new.self.ok.0))
    (held_says m (list_at c.args.mover.now.order.now) texts _ (code_seen c.in-Some.code) c.in_ok-of.field-0 b c.requires.sound c.requires.order
    c.in-Some.ensures.texts c.in_ok-of.ensures (code_at _ texts c.code.result c.in-Some.code c.code.ensures.body c.in-Some.is) e)
