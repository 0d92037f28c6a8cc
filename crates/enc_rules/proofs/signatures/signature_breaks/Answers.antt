use Rattle.std.proofs.Common.{◌∙◌, ap}
use Rattle.std.specs.Prelude.{slice_index, not}
use Rattle.enc_plain.specs.Rows.{bytes_at}
use Rattle.enc_plain.specs.Signatures.{is_signature}
use Rattle.enc_rules.specs.Known.{listed_counts, listed_rows}
use Rattle.enc_rules.proofs.Counted.{signature_alike}
use Rattle.enc_rules.proofs.signatures.signature_breaks.Goals as goal

pub returns : goal.returns
returns g c =
    rw (c.in-Add.is, ← c.in-Some.ensures.column)
    (ap not (c.is_signature.ensures ∙ ap (is_signature (slice_index c.counts.result.now.rows) c.args.row.table) c.blob.ensures
    ∙ signature_alike (slice_index c.counts.result.now.rows) (listed_counts c.args.context.now) c.args.row.table (bytes_at (listed_rows c.args.context.now) c.args.row c.in-Some.column) c.counts.ensures))
