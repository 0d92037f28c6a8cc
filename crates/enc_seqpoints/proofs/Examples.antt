-- The example computes.
use Rattle.std.proofs.Common.{refl}
use Rattle.enc_seqpoints.specs.Grammar.{below_limit, moved, document_row_in, column_difference_in, moved_in, start_in, are_lines, spanned, seen_in, lines_in, point_in, begun_in, record_in, after, records_in, document_in, header_in, body_in, points_in}
use Rattle.enc_base.specs.Readers.{number_in, signed_in}
use Rattle.enc_seqpoints.specs.Spelling.{spelled_number, spelled_difference, between, document_holds, is_later, ends_behind, is_near, are_writable, is_writable, document_bytes, offset_bytes, columns_bytes, start_bytes, lines_bytes, point_bytes, records_of, first_document, header_bytes, blob_of}
use Rattle.enc_seqpoints.specs.Example.{BlobIsRead, BlobIsWritten}

pub example_reads : BlobIsRead
unfolding number_in signed_in below_limit moved document_row_in column_difference_in moved_in start_in are_lines spanned seen_in lines_in point_in begun_in record_in after records_in document_in header_in body_in points_in
example_reads = refl

pub example_written : BlobIsWritten
unfolding are_lines after spelled_number spelled_difference between document_holds is_later ends_behind is_near are_writable is_writable document_bytes offset_bytes columns_bytes start_bytes lines_bytes point_bytes records_of first_document header_bytes blob_of
example_written = refl
