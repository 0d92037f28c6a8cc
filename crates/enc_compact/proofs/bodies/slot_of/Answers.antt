use Rattle.std.proofs.Common.{sym, ◌∙◌}
use Rattle.enc_row_order.specs.Orders.{moved_by, new_order}
use Rattle.enc_compact.proofs.BodiesHeld.{place_holds, place_known}
use Rattle.enc_compact.proofs.bodies.slot_of.Goals as goal

pub returns-in-Some-clause-holds : goal.returns-in-Some-clause-holds
returns-in-Some-clause-holds g c =
    let m = g.V.ModuleView.meaning c.args.view.now in
    place_holds (g.V.ModuleView.places c.args.view.now) (moved_by (new_order m)) (g.V.ModuleView.users c.args.view.now) c.args.bodies.now.held.items
    c.args.bodies.now.known _ c.code_place-place.result c.in-Some.slot c.requires.known (sym c.in-Some.is ∙ c.known_at.ensures) c.code_place-place.ensures.body

pub returns-in-Ok-insert-clause-known : goal.returns-in-Ok-insert-clause-known
returns-in-Ok-insert-clause-known g c =
    let m = g.V.ModuleView.meaning c.args.view.now in
    place_known (g.V.ModuleView.places c.args.view.now) (moved_by (new_order m)) (g.V.ModuleView.users c.args.view.now) c.args.bodies.now.held.items
    c.hold.new.held.items c.in-Ok.ensures.grows.0 c.args.bodies.now.known c.insert.new.self _ c.code_place-place.result c.in-Ok.slot c.requires.known
    c.in-Ok.ensures.grows.1 c.code_place-place.ensures.body c.in-Ok.ensures.holds c.in-Ok-insert.ensures.updates
