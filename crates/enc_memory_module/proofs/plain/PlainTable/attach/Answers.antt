use Rattle.std.proofs.Common.{◌<◌, ◌∙◌, ap, arith}
use Rattle.std.proofs.lemmas.Result.{on_ok_weaker}
use Rattle.enc_plain.specs.Apply.{with_child}
use Rattle.enc_memory_module.proofs.PutInPlace.{attached_within, attached_none, attached_past}
use Rattle.enc_memory_module.proofs.plain.PlainTable.attach.Goals as goal

pub returns-then-n-eq0 : goal.returns-then-n-eq0
returns-then-n-eq0 c = attached_none c.args.self.now c.args.row c.args.child c.if-n-eq0.true

pub returns-then-n-len : goal.returns-then-n-len
returns-then-n-len c =
    let some : 0 < c.args.row = omega (arith, c.if-n-eq0.false) in
    rw (← c.self.view_is) (on_ok_weaker c.attach.result (λ is. attached_within c.self.inside.rows.items c.args.row c.args.child c.attach.new.self c.index_mut-owner.result.now some (omega (arith, c.self.inside.rows.ok.0)) (is ∙ ap (with_child c.args.child) c.index_mut-owner.ensures.value)) c.attach.ensures)

pub returns : goal.returns
returns c = rw (← c.self.view_is) (attached_past c.self.inside.rows.items c.args.row c.args.child (omega (arith, c.self.inside.rows.ok.0)))
