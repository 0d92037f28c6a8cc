use Rattle.std.proofs.Common.{◌∙◌, sym}
use Rattle.std.proofs.lemmas.Result.{on_ok_weaker}
use Rattle.enc_memory_module.specs.Encoded.{with_tables}
use Rattle.enc_memory_module.proofs.FollowingEdits.{children_none, child_one}
use Rattle.enc_memory_module.proofs.apply.attach_child.Goals as goal

pub returns-in_default : goal.returns-in_default
returns-in_default c = rw c.in_default.is (children_none (with_tables c.args.tables.now.items))

pub returns-then-not-is_child_table : goal.returns-then-not-is_child_table
returns-then-not-is_child_table c =
    let no = sym c.is_child_table.ensures ∙ c.if-not-is_child_table.true in
    rw (c.in-Add.is, no) (children_none (with_tables c.args.tables.now.items))

pub returns : goal.returns
returns c =
    let yes = sym c.is_child_table.ensures ∙ c.if-not-is_child_table.false in
    rw (c.in-Add.is, yes) (on_ok_weaker c.attach.result (λ is. is ∙ child_one (with_tables c.args.tables.now.items) _) c.attach.ensures)
