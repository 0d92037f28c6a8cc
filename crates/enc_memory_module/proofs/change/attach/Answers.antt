use Rattle.std.proofs.Common.{◌∙◌, ap, arith}
use Rattle.std.proofs.lemmas.Result.{on_ok_weaker}
use Rattle.enc_plain.specs.Apply.{change_row, with_child}
use Rattle.enc_memory_module.proofs.PutInPlace.{attach_table, attach_no_table}
use Rattle.enc_memory_module.proofs.change.attach.Goals as goal

pub returns-then-n-len : goal.returns-then-n-len
returns-then-n-len c =
    on_ok_weaker c.attach.result (λ is. attach_table c.args.tables.now.items c.args.owner c.args.child c.attach.new.self c.index_mut-table.result.now (omega (arith, c.args.tables.now.ok.0)) (is ∙ ap (λ rows. change_row rows c.args.owner.row (with_child c.args.child)) c.index_mut-table.ensures.value)) c.attach.ensures

pub returns : goal.returns
returns c = attach_no_table c.args.tables.now.items c.args.owner c.args.child (omega (arith, c.args.tables.now.ok.0))
