use Rattle.std.proofs.Common.{sym}
use Rattle.enc_machine_types.proofs.Ended.{no_field, no_field_kind, field_read, field_more}
use Rattle.enc_machine_types.proofs.signature.field_kind_in.Goals as goal

pub returns-in_default : goal.returns-in_default
returns-in_default c = no_field c.args.blob.now c.in_default.ensures

pub returns-in_default-kind_front : goal.returns-in_default-kind_front
returns-in_default-kind_front c = no_field_kind c.args.blob.now c.in-Some.rest.now c.in-Some.ensures c.in_default-kind_front.ensures

pub returns-then-not-is_empty : goal.returns-then-not-is_empty
returns-then-not-is_empty c = field_more c.args.blob.now c.in-Some.rest.now c.in-Some-kind_front.behind.now c.in-Some-kind_front.kind c.in-Some.ensures c.in-Some-kind_front.ensures (sym c.if-not-is_empty.ensures)

pub returns : goal.returns
returns c = field_read c.args.blob.now c.in-Some.rest.now c.in-Some-kind_front.behind.now c.in-Some-kind_front.kind c.in-Some.ensures c.in-Some-kind_front.ensures (sym c.if-not-is_empty.ensures)
