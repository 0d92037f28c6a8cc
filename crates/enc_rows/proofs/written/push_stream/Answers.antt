use Rattle.std.proofs.Common.{refl}
use Rattle.enc_rows.proofs.Streams.{stream_behind}
use Rattle.enc_rows.proofs.written.push_stream.Goals as goal

pub returns : goal.returns
returns c =
    stream_behind c.args.tables.now c.args.jtd c.args.flags c.valid_of.result c.widths_of-widths.result _ _ _ _ _ c.valid_of.ensures (rw (c.widths_of-widths.ensures, c.counts_of.ensures) refl) c.in_ok-push_header.ensures c.in_ok-push_counts.ensures c.in_ok-push_more.ensures c.in_ok-push_tables.ensures
