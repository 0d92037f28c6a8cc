use Rattle.std.proofs.Common.{◌+◌, ◌≤◌, length, arith}
use Rattle.enc_rewriter.specs.Standing.{fields_before}
use Rattle.enc_rewriter.proofs.CodeCopied.{on_ok}
use Rattle.enc_rewriter.proofs.Gathers.{row_there}
use Rattle.enc_rewriter.proofs.FieldsPlaced.{field_more, field_within}
use Rattle.enc_rewriter.proofs.fields.push_field.Goals as goal

pub field_bytes-bytes-requires-clause-row : goal.field_bytes-bytes-requires-clause-row
field_bytes-bytes-requires-clause-row g c = row_there (g.V.ModuleView.meaning c.args.view.now) 0x1D c.args.n c.requires.row

pub returns-then-is_empty-clause-size : goal.returns-then-is_empty-clause-size
returns-then-is_empty-clause-size g c =
    omega (arith, field_more (g.V.ModuleView.meaning c.args.view.now) c.args.n c.field_bytes-bytes.result.now c.field_bytes-bytes.ensures)

pub push_bytes-requires-clause-room : goal.push_bytes-requires-clause-room
push_bytes-requires-clause-room g c =
    omega (arith, field_within (g.V.ModuleView.meaning c.args.view.now) c.args.n c.field_bytes-bytes.result.now c.requires.row c.field_bytes-bytes.ensures, c.requires.room)

pub returns-clause-size : goal.returns-clause-size
returns-clause-size g c =
    let m = g.V.ModuleView.meaning c.args.view.now in
    let bytes = c.field_bytes-bytes.result.now in
    let more = field_more m c.args.n bytes c.field_bytes-bytes.ensures in
    on_ok c.push_bytes.result (length c.push_bytes.new.out.items ≤ length c.args.out.now.items + (8 + length bytes))
    (length c.push_bytes.new.out.items + fields_before m c.args.n ≤ length c.args.out.now.items + fields_before m (c.args.n + 1))
    (λ size. omega (arith, size, more))
    c.push_bytes.ensures.size
