use Rattle.std.proofs.Common.{slice_index, rules}
use Rattle.enc_schema.specs.Schema.{list_at}
use Rattle.enc_row_order.specs.Orders.{moved_by}
use Rattle.enc_compact.proofs.SignaturesHeld.{no_fault, written_is}
use Rattle.enc_compact.proofs.signatures.moved_signature.Goals as goal

pub unreachable-requires : goal.unreachable-requires
unreachable-requires c =
    no_fault (λ t. slice_index c.args.moving.now.counts.now.rows t) c.args.table c.args.blob.now c.requires
    (rw c.kind_in_table-kind.ensures at (c.in-Err-Grammar.ensures c.in-Err-Grammar.field-0-is))

pub returns-in-Ok-write_moved : goal.returns-in-Ok-write_moved
returns-in-Ok-write_moved c =
    written_is (moved_by (list_at c.args.moving.now.order.now)) (λ t. slice_index c.args.moving.now.counts.now.rows t) c.args.table c.args.blob.now
    c.write_moved.new.out.items c.in-Ok.sig (rw c.kind_in_table-kind.ensures at c.in-Ok.ensures)
    (rw c.new-bytes.ensures.items at (c.in-Ok-write_moved.ensures.written (moved_by (list_at c.args.moving.now.order.now)) (λ t u h. search rules)))
