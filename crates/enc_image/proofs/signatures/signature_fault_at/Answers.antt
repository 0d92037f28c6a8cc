use Rattle.enc_plain.specs.Cell.{blobs}
use Rattle.enc_plain.proofs.Columns.{column_there}
use Rattle.enc_image.proofs.signatures.signature_fault_at.Goals as goal

pub cell-offset-requires-clause-column : goal.cell-offset-requires-clause-column
cell-offset-requires-clause-column c = column_there c.args.table c.args.column blobs c.requires.column
