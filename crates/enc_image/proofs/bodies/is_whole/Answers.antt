use Rattle.enc_opcodes.specs.Body.{code_seen, texts_are_there}
use Rattle.enc_rows.specs.Layout.{rows_of}
use Rattle.enc_image.specs.Base.{users_of}
use Rattle.enc_image.specs.Seen.{source_seen}
use Rattle.enc_image.proofs.Locals.{good_locals}
use Rattle.enc_image.proofs.bodies.is_whole.Goals as goal

pub has_locals-requires-clause-row : goal.has_locals-requires-clause-row
has_locals-requires-clause-row c = good_locals (rows_of c.args.cells.now.tables.now) (code_seen c.args.code.now) (texts_are_there (users_of (source_seen c.args.cells.now)) c.args.code.now.code.now) c.in_ok-is_good_body.field-0 (rw c.counts.ensures at c.in_ok-is_good_body.ensures) c.if-not-branch.false
