use Rattle.std.proofs.Common.{sym}
use Rattle.enc_machine_types.proofs.Ended.{no_locals, no_count, no_kinds, locals_read, locals_more}
use Rattle.enc_machine_types.proofs.signature.local_kinds_in.Goals as goal

pub returns-in_default : goal.returns-in_default
returns-in_default c = no_locals c.args.blob.now c.in_default.ensures

pub returns-in_default-unsigned_front : goal.returns-in_default-unsigned_front
returns-in_default-unsigned_front c = no_count c.args.blob.now c.in-Some.first.now c.in-Some.ensures c.in_default-unsigned_front.ensures.read

pub returns-in_default-kinds_front : goal.returns-in_default-kinds_front
returns-in_default-kinds_front c = no_kinds c.args.blob.now c.in-Some.first.now c.in-Some-unsigned_front.second.now c.in-Some-unsigned_front.count c.in-Some.ensures c.in-Some-unsigned_front.ensures.read c.in_default-kinds_front.ensures

pub returns-then-not-is_empty : goal.returns-then-not-is_empty
returns-then-not-is_empty c = locals_more c.args.blob.now c.in-Some.first.now c.in-Some-unsigned_front.second.now c.in-Some-kinds_front.behind.now c.in-Some-unsigned_front.count c.in-Some-kinds_front.kinds c.in-Some.ensures c.in-Some-unsigned_front.ensures.read c.in-Some-kinds_front.ensures (sym c.if-not-is_empty.ensures)

pub returns : goal.returns
returns c = locals_read c.args.blob.now c.in-Some.first.now c.in-Some-unsigned_front.second.now c.in-Some-kinds_front.behind.now c.in-Some-unsigned_front.count c.in-Some-kinds_front.kinds c.in-Some.ensures c.in-Some-unsigned_front.ensures.read c.in-Some-kinds_front.ensures (sym c.if-not-is_empty.ensures)
