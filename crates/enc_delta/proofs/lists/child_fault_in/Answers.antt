use Rattle.std.proofs.Common.{◌∙◌, arith}
use Rattle.enc_delta.proofs.ListsChildren.{all_named, row_fits, row_told}
use Rattle.enc_delta.proofs.lists.child_fault_in.Goals as goal

pub overflow_cast-row : goal.overflow_cast-row
overflow_cast-row g c = omega (arith, row_fits _ _ _ c.child_table-table.result _ _ _ c.requires.inserts c.requires.rows (g.met.C.ChainView.means c.args.chain.now) (c.from.ensures ∙ c.count.ensures.count) c.inserts.ensures.number c.if-pairs-inserts.true)

pub returns-then-pairs-inserts : goal.returns-then-pairs-inserts
returns-then-pairs-inserts g c = row_told _ _ _ _ _ _ _ _ _ c.requires.log c.requires.low c.requires.high (g.met.C.ChainView.means c.args.chain.now) c.child_table-table.ensures (c.from.ensures ∙ c.count.ensures.count) c.inserts.ensures.number c.adds-pairs.ensures.number c.if-pairs-inserts.true

pub returns : goal.returns
returns g c = all_named _ _ _ _ c.requires.log c.requires.low c.requires.high (rw (← c.child_table-table.ensures, ← c.inserts.ensures.number, ← c.adds-pairs.ensures.number) c.if-pairs-inserts.false)
