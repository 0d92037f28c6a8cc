use Rattle.std.proofs.Common.{arith}
use Rattle.enc_meta.specs.Built.{heaps_built}
use Rattle.enc_meta.specs.Heaps.{user_at}
use Rattle.enc_rewriter.proofs.Gathers.{row_there}
use Rattle.enc_rewriter.proofs.KnownBodies.{known_still, one_known, weight_grows}
use Rattle.enc_rewriter.proofs.bodies.place_method.Goals as goal

pub code_place-place-requires-clause-row : goal.code_place-place-requires-clause-row
code_place-place-requires-clause-row g c = row_there (g.V.ModuleView.meaning c.args.view.now) 0x06 c.args.n c.requires.next.row

pub returns-in-Some-clause-stand : goal.returns-in-Some-clause-stand
returns-in-Some-clause-stand g c = record {
  weighs = omega (arith, weight_grows (g.V.ModuleView.meaning c.args.view.now) c.args.n, c.requires.next.weighs);
  known = c.requires.known;
}

pub returns-in-Ok-insert-clause-stand : goal.returns-in-Ok-insert-clause-stand
returns-in-Ok-insert-clause-stand g c =
    let m = g.V.ModuleView.meaning c.args.view.now in
    let users = user_at (heaps_built c.args.heaps.now).users in
    let places = g.V.ModuleView.places c.args.view.now in
    let grown = c.in-Ok.ensures.grows in
    record {
      weighs = c.in-Ok.ensures.weighs;
      known = one_known m users places c.push_method.new.out.items c.args.to.now.known c.insert.new.self c.code_place-place.result c.in-Ok.rva c.args.n c.requires.next.all.sound
          (known_still m users places c.args.to.now.code.items c.push_method.new.out.items grown.0 c.args.to.now.known grown.1 c.requires.known)
          c.code_place-place.ensures.body c.in-Ok.ensures.placed c.in-Ok-insert.ensures.updates;
    }
