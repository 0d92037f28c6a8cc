use Rattle.std.proofs.Common.{◌+◌, ◌*◌, ◌≤◌, length, arith}
use Rattle.enc_meta.specs.Built.{heaps_built}
use Rattle.enc_meta.specs.Heaps.{user_at}
use Rattle.enc_opcodes.specs.Body.{body_of, code_seen}
use Rattle.enc_plain.specs.Sound.{row_count}
use Rattle.enc_rewriter.specs.Placed.{IsBodyPlaced}
use Rattle.enc_rewriter.specs.Standing.{StandsAt, Weighs, weight_of, bodies_before}
use Rattle.enc_rewriter.proofs.CodeCopied.{on_ok, if_ok}
use Rattle.enc_rewriter.proofs.Gathers.{row_there}
use Rattle.enc_rewriter.proofs.MethodsPlaced.{ready, placed_some, placed_none, weight_one, weight_none}
use Rattle.enc_rewriter.proofs.bodies.push_method.Goals as goal

pub code-requires-clause-row : goal.code-requires-clause-row
code-requires-clause-row g c = row_there (g.V.ModuleView.meaning c.args.view.now) 0x06 c.args.n c.requires.row

pub push_body-requires : goal.push_body-requires
push_body-requires g c =
    ready (g.V.ModuleView.meaning c.args.view.now) c.args.heaps.now (g.V.ModuleView.users c.args.view.now) c.args.n (code_seen c.in-Some.body) (length c.args.out.now.items) c.requires c.in-Some.ensures.body

pub returns-in-Some-clause-placed : goal.returns-in-Some-clause-placed
returns-in-Some-clause-placed g c =
    let m = g.V.ModuleView.meaning c.args.view.now in
    let new = user_at (heaps_built c.args.heaps.now).users in
    let b = body_of (g.V.ModuleView.users c.args.view.now) (code_seen c.in-Some.body) in
    if_ok c.push_body.result (λ rva. StandsAt (row_count m) new c.push_body.new.out.items rva b) (λ rva. IsBodyPlaced m new c.push_body.new.out.items c.args.n rva)
    (λ rva stands. placed_some m new c.push_body.new.out.items c.args.n rva b c.requires.all.sound c.requires.row c.in-Some.ensures.body stands)
    c.push_body.ensures.stands

pub returns-in-Some-clause-weighs : goal.returns-in-Some-clause-weighs
returns-in-Some-clause-weighs g c =
    let m = g.V.ModuleView.meaning c.args.view.now in
    let b = body_of (g.V.ModuleView.users c.args.view.now) (code_seen c.in-Some.body) in
    let more = weight_one m c.args.n b c.in-Some.ensures.body in
    on_ok c.push_body.result (4194300 * length c.push_body.new.out.items ≤ 4194300 * length c.args.out.now.items + 4194301 * weight_of b) (Weighs (bodies_before m (c.args.n + 1)) (length c.push_body.new.out.items))
    (λ size. omega (arith, size, more, c.requires.weighs))
    c.push_body.ensures.size

pub returns-in-None-clause-placed : goal.returns-in-None-clause-placed
returns-in-None-clause-placed g c =
    placed_none (g.V.ModuleView.meaning c.args.view.now) (user_at (heaps_built c.args.heaps.now).users) c.args.out.now.items c.args.n c.in-None.ensures.body

pub returns-in-None-clause-weighs : goal.returns-in-None-clause-weighs
returns-in-None-clause-weighs g c =
    omega (arith, weight_none (g.V.ModuleView.meaning c.args.view.now) c.args.n c.in-None.ensures.body, c.requires.weighs)
