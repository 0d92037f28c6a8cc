use Rattle.std.proofs.Common.{sym}
use Rattle.enc_machine_types.proofs.Ended.{no_local, no_local_count, no_local_there, local_read, local_more}
use Rattle.enc_machine_types.proofs.signature.local_kind_in.Goals as goal

pub returns-in_default : goal.returns-in_default
returns-in_default c = no_local c.args.blob.now c.args.n c.in_default.ensures

pub returns-in_default-unsigned_front : goal.returns-in_default-unsigned_front
returns-in_default-unsigned_front c = no_local_count c.args.blob.now c.in-Some.first.now c.args.n c.in-Some.ensures c.in_default-unsigned_front.ensures.read

pub returns-in_default-nth_front : goal.returns-in_default-nth_front
returns-in_default-nth_front c = no_local_there c.args.blob.now c.in-Some.first.now c.in-Some-unsigned_front.second.now c.in-Some-unsigned_front.count c.args.n c.in-Some.ensures c.in-Some-unsigned_front.ensures.read c.in_default-nth_front.ensures

pub returns-then-not-is_empty : goal.returns-then-not-is_empty
returns-then-not-is_empty c = local_more c.args.blob.now c.in-Some.first.now c.in-Some-unsigned_front.second.now c.in-Some-nth_front.behind.now c.in-Some-unsigned_front.count c.args.n c.in-Some-nth_front.kind c.in-Some.ensures c.in-Some-unsigned_front.ensures.read c.in-Some-nth_front.ensures (sym c.if-not-is_empty.ensures)

pub returns : goal.returns
returns c = local_read c.args.blob.now c.in-Some.first.now c.in-Some-unsigned_front.second.now c.in-Some-nth_front.behind.now c.in-Some-unsigned_front.count c.args.n c.in-Some-nth_front.kind c.in-Some.ensures c.in-Some-unsigned_front.ensures.read c.in-Some-nth_front.ensures (sym c.if-not-is_empty.ensures)
