use Rattle.std.proofs.Common.{◌≡◌, ◌+◌, ◌-◌, ◌∙◌, length, sym, ap, arith, ℕ, List}
use Rattle.std.proofs.lemmas.Bool.Decides.{nat_tests}
use Rattle.enc_plain.specs.DebugSeen.{parts_said}
use Rattle.enc_plain.specs.DocumentName.{name_parts_in, separator_bytes}
use Rattle.enc_plain.proofs.NameParts.{said_done, said_end, said_fail, still_some}
use Rattle.enc_plain.proofs.NamePlaces.{part_fewer, said_length}
use Rattle.enc_plain.proofs.document.parts_len.Goals as goal

pub returns-then-is_empty : goal.returns-then-is_empty
returns-then-is_empty c =
    let h = ap length (said_done c.loop-i.before c.args.separator c.args.heaps.now.blobs (length c.args.bytes.now - c.loop-i.i) c.loop-i.rest.now (grind (arith, nat_tests))) in
    omega (arith, h, c.loop-i.invariant.1)

pub unreachable-requires : goal.unreachable-requires
unreachable-requires c = said_fail c.args.heaps.now.blobs (length c.args.bytes.now - c.loop-i.i) (length c.args.bytes.now - c.loop-i.i - 1) c.loop-i.rest.now (omega arith) (grind (arith, nat_tests)) (sym c.in_default.ensures) c.loop-i.invariant.0

pub loop-i-preserved : goal.loop-i-preserved
loop-i-preserved c =
    let blobs = c.args.heaps.now.blobs in
    let m = length c.args.bytes.now - (c.loop-i.i + 1) in
    let h = said_length c.loop-i.before c.args.separator blobs (length c.args.bytes.now - c.loop-i.i) m c.loop-i.rest.now c.in-Some.text.now c.in-Some.behind.now (omega arith) (sym c.in-Some.ensures) c.loop-i.invariant.0 in
    let fewer = part_fewer blobs c.loop-i.rest.now c.in-Some.text.now c.in-Some.behind.now (sym c.in-Some.ensures) in
    let most : c.lengths-most.result.blobs ≡ length blobs = ap (λ l. l.blobs) c.lengths-most.ensures in
    let whole : c.min.result ≡ length c.in-Some.text.now = omega (arith, c.min.ensures, most, fewer) in (
      still_some blobs (length c.args.bytes.now - c.loop-i.i) m c.loop-i.rest.now c.in-Some.text.now c.in-Some.behind.now (omega arith) (sym c.in-Some.ensures) c.loop-i.invariant.0,
      omega (arith, h, whole, c.separator_len.ensures.len, c.loop-i.invariant.1),
      omega (arith, fewer, whole, c.separator_len.ensures.few, c.loop-i.invariant.2),
    )

pub returns : goal.returns
returns c =
    let none = said_end c.args.heaps.now.blobs c.loop-i.rest.now (length c.args.bytes.now - c.loop-i.i) (omega arith) c.loop-i.invariant.0 in
    let h = ap length (said_done c.loop-i.before c.args.separator c.args.heaps.now.blobs (length c.args.bytes.now - c.loop-i.i) c.loop-i.rest.now none) in
    omega (arith, h, c.loop-i.invariant.1)
