use Rattle.std.proofs.Common.{◌∙◌, ◌++◌, ap, get_or}
use Rattle.enc_base.specs.declared.token.Token.{Token}
use Rattle.enc_plain.specs.Module.{kids_of}
use Rattle.enc_row_order.proofs.Permuted.{no_kids, more_kids, owner_there}
use Rattle.enc_row_order.proofs.kids.kids_listed.Goals as goal

pub loop-i-init : goal.loop-i-init
loop-i-init g c = no_kids (g.V.ModuleView.meaning c.args.view.now) c.args.child _ c.new-kids.ensures.items

pub kid_rows-requires-clause-row : goal.kid_rows-requires-clause-row
kid_rows-requires-clause-row g c =
    owner_there (g.V.ModuleView.meaning c.args.view.now) c.owner_table.result _ c.args.owners.now c.loop-i.i 0 c.owner_table.ensures c.requires.rows
    c.loop-i-test.true

pub loop-i-preserved : goal.loop-i-preserved
loop-i-preserved g c =
    let m = g.V.ModuleView.meaning c.args.view.now in
    more_kids m c.args.child c.loop-i.i 0 c.args.owners.now c.loop-i.kids.items c.in_ok-rows.rows.items _ c.loop-i-test.true c.loop-i.invariant
    (c.in_ok-rows.ensures
    ∙ ap (λ t. let u : Token = record { table = t; row = get_or c.args.owners.now c.loop-i.i 0 } in kids_of m u c.args.child) c.owner_table.ensures)
    (c.in_ok-extend_from_slice.ensures.items ∙ ap (λ xs. c.loop-i.kids.items ++ xs) c.deref.ensures.value)
