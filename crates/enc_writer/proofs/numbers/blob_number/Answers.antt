use Rattle.std.proofs.Common.{◌≡◌, List, ℕ, sym, ap, ◌∙◌}
use Rattle.std.specs.Prelude.{Some}
use Rattle.enc_meta.specs.Built.{Built, is_kept}
use Rattle.enc_meta.specs.BuiltLaws.{ArePast, heaps_joined}
use Rattle.enc_meta.specs.Joined.{joined_blob}
use Rattle.enc_plain.specs.Rows.{bytes_at}
use Rattle.enc_rules.specs.Listed.{rows_listed}
use Rattle.enc_list_delta.specs.Holds.{heaps_written}
use Rattle.enc_rewriter.proofs.Says.{blob_kind}
use Rattle.enc_writer.proofs.HeapsPast.{chain_past}
use Rattle.enc_writer.proofs.CellsKept.{blob_is_kept}
use Rattle.enc_writer.proofs.NumbersSay.{blob_says}
use Rattle.enc_writer.proofs.numbers.blob_number.Goals as goal

pub blob-requires : goal.blob-requires
blob-requires g c = blob_kind c.args.row.table c.args.i c.requires.column

pub blob_offset-requires : goal.blob_offset-requires
blob_offset-requires g c =
    let j = c.args.context.now in
    record {
      kept = ap (λ (v : List ℕ). is_kept c.args.heaps.now.blobs v) c.blob.ensures
          ∙ ap (λ (h : Built). is_kept h.blobs (bytes_at (rows_listed j.chain j.list.edits) c.args.row c.args.i)) c.requires.heaps
          ∙ blob_is_kept j.chain j.list c.args.row c.args.i c.requires.may c.requires.row c.requires.column;
    }

pub returns-clause-says : goal.returns-clause-says
returns-clause-says g c =
    let j = c.args.context.now in
    let past : ArePast j.chain.heaps c.args.heaps.now.starts = rw c.requires.heaps (chain_past j.chain j.list) in
    let there = c.in_ok-offset.ensures.offset j.chain.heaps past in
    let same : joined_blob (heaps_joined j.chain.heaps (heaps_written j.chain j.list)) c.in_ok-offset.offset ≡ Some c.blob.result.now = ap (λ (h : Built). joined_blob (heaps_joined j.chain.heaps h) c.in_ok-offset.offset) (sym c.requires.heaps) ∙ there in
    blob_says j.chain j.list c.args.row c.args.i c.in_ok-offset.offset c.requires.may c.requires.row c.requires.column c.in_ok-offset.ensures.low
    (same ∙ ap (λ (v : List ℕ). Some v) c.blob.ensures)
