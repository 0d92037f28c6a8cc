use Rattle.std.proofs.Common.{◌+◌, ◌-◌, ◌∙◌, length, sym, arith}
use Rattle.std.proofs.lemmas.Bool.Decides.{nat_tests}
use Rattle.enc_plain.proofs.NameParts.{parts_more, parts_fail, parts_done, parts_end}
use Rattle.enc_plain.proofs.document.are_parts.Goals as goal

pub returns-then-is_empty : goal.returns-then-is_empty
returns-then-is_empty c = sym (c.loop-i.invariant ∙ parts_done c.args.heaps.now.blobs (length c.args.bytes.now - c.loop-i.i) c.loop-i.rest.now (grind (arith, nat_tests)))

pub returns-in_default : goal.returns-in_default
returns-in_default c = sym (c.loop-i.invariant ∙ parts_fail c.args.heaps.now.blobs (length c.args.bytes.now - c.loop-i.i) (length c.args.bytes.now - c.loop-i.i - 1) c.loop-i.rest.now (omega arith) (grind (arith, nat_tests)) (sym c.in_default.ensures))

pub loop-i-preserved : goal.loop-i-preserved
loop-i-preserved c = c.loop-i.invariant ∙ parts_more c.args.heaps.now.blobs (length c.args.bytes.now - c.loop-i.i) (length c.args.bytes.now - (c.loop-i.i + 1)) c.loop-i.rest.now c.in-Some.field-0-0.now c.in-Some.behind.now (omega arith) (sym c.in-Some.ensures)

pub returns : goal.returns
returns c = c.is_empty-2.ensures ∙ sym (c.loop-i.invariant ∙ parts_end c.args.heaps.now.blobs (length c.args.bytes.now - c.loop-i.i) c.loop-i.rest.now (omega arith))
