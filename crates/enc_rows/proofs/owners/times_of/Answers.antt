use Rattle.std.proofs.Common.{◌≡◌, refl, ◌∙◌, arith}
use Rattle.enc_schema.specs.Children.{ptr_of}
use Rattle.enc_rows.specs.Runs.{TableStream, table_stream, raw_number}
use Rattle.enc_rows.proofs.Silent.{ptr_column_is}
use Rattle.enc_rows.proofs.Times.{times_init, times_step, cell_is}
use Rattle.enc_rows.proofs.owners.times_of.Goals as goal

pub loop-p-init : goal.loop-p-init
loop-p-init c = times_init (table_stream c.args.bytes.now c.args.tables.now) c.args.child c.args.first _ _ (c.in_ok-times.ensures.items_if_clones_equal (λ y same. same)) c.count.ensures.count

pub cell-requires-clause-column : goal.cell-requires-clause-column
cell-requires-clause-column c = rw (c.ptr_table-through.ensures.ptr, ptr_column_is c.args.child c.requires.child) refl

pub loop-p-preserved : goal.loop-p-preserved
loop-p-preserved c =
    let s : TableStream = table_stream c.args.bytes.now c.args.tables.now in
    let read : raw_number s (record { table = ptr_of c.args.child; row = c.loop-p.p }) 0 ≡ c.cell.result = cell_is s _ _ _ _ c.ptr_table-through.ensures.ptr c.cell.ensures in (
      c.add_one.ensures.length ∙ c.loop-p.invariant.0,
      λ n row. times_step s c.args.child c.args.first c.loop-p.p n c.cell.result _ _ (omega arith) c.requires.ptr read (c.loop-p.invariant.1 n row) (c.add_one.ensures.each n (rw c.loop-p.invariant.0 row)),
    )
