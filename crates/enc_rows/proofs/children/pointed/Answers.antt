use Rattle.std.proofs.Common.{refl, arith}
use Rattle.enc_rows.specs.Runs.{TableStream, table_stream}
use Rattle.enc_rows.proofs.Named.{named_outside, named_past, named_there}
use Rattle.enc_rows.proofs.Silent.{ptr_column_is}
use Rattle.enc_rows.proofs.Times.{cell_is}
use Rattle.enc_rows.proofs.children.pointed.Goals.{then-p-eq0-via-then-p-eq0, then-p-eq0-via-else-p-eq0+then-p-count}
use Rattle.enc_rows.proofs.children.pointed.Goals as goal

pub returns-then-p-eq0 : goal.returns-then-p-eq0
returns-then-p-eq0 c =
    let s : TableStream = table_stream c.args.bytes.now c.args.tables.now in
    elim c.then-p-eq0.branch [
      | then-p-eq0-via-then-p-eq0 w ↦ named_outside s c.args.child c.args.p c.requires.child c.requires.ptr (omega arith)
      | then-p-eq0-via-else-p-eq0+then-p-count w ↦ named_past s c.args.child c.args.p c.requires.child c.requires.ptr (rw (← c.ptr_table-table.ensures.ptr) (omega arith))
    ]

pub cell-requires-clause-column : goal.cell-requires-clause-column
cell-requires-clause-column c = rw (c.ptr_table-table.ensures.ptr, ptr_column_is c.args.child c.requires.child) refl

pub returns : goal.returns
returns c = named_there _ c.args.child c.args.p _ c.requires.ptr (cell_is _ _ _ c.args.p _ c.ptr_table-table.ensures.ptr c.cell.ensures)
