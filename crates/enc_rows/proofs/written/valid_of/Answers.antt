use Rattle.std.proofs.Common.{arith}
use Rattle.enc_rows.proofs.Below.{sum_more}
use Rattle.enc_rows.specs.Written.{bit_of}
use Rattle.enc_rows.proofs.Bits.{bits_room}
use Rattle.enc_rows.proofs.written.valid_of.Goals as goal

pub loop-table-preserved : goal.loop-table-preserved
loop-table-preserved c = (
  omega (arith, sum_more (bit_of c.args.tables.now) c.loop-table.table, c.loop-table.invariant.0, c.bit_of-valid.ensures.bit),
  bits_room _ _ c.loop-table.table c.loop-table.invariant.1 c.bit_of-valid.ensures.few,
)
