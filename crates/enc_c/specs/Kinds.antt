-- The kinds of cells, as the code has them.
use Rattle.enc_plain.specs.Cell.{Kind, numbers, texts, blobs, guids, references, bodies, fields}
use Rattle.enc_c.specs.declared.kinds.CellKind.{CellKind}
use Rattle.enc_c.specs.declared.kinds.CellKind.TheVariants.{Numbers, Texts, Blobs, Guids, References, Bodies, Fields}

abbrev pub kind_seen : CellKind → Kind
kind_seen Numbers = numbers
kind_seen Texts = texts
kind_seen Blobs = blobs
kind_seen Guids = guids
kind_seen References = references
kind_seen Bodies = bodies
kind_seen Fields = fields
