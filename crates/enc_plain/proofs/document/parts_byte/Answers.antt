use Rattle.std.proofs.Common.{◌≡◌, ◌+◌, ◌-◌, ◌∙◌, length, sym, ap, arith, ℕ, List}
use Rattle.std.proofs.lemmas.Bool.Decides.{nat_tests}
use Rattle.std.specs.Prelude.{slice_get}
use Rattle.enc_plain.proofs.NameParts.{said_done, said_end, said_fail, still_some}
use Rattle.enc_plain.proofs.NamePlaces.{said_here, said_behind}
use Rattle.enc_plain.proofs.document.parts_byte.Goals as goal

pub returns-then-is_empty : goal.returns-then-is_empty
returns-then-is_empty c = sym (c.loop-k.invariant.1 ∙ ap (λ (l : List ℕ). slice_get l c.loop-k.left) (said_done c.loop-k.before c.args.separator c.args.heaps.now.blobs (length c.args.bytes.now - c.loop-k.k) c.loop-k.rest.now (grind (arith, nat_tests))))

pub unreachable-requires : goal.unreachable-requires
unreachable-requires c = said_fail c.args.heaps.now.blobs (length c.args.bytes.now - c.loop-k.k) (length c.args.bytes.now - c.loop-k.k - 1) c.loop-k.rest.now (omega arith) (grind (arith, nat_tests)) (sym c.in_default.ensures) c.loop-k.invariant.0

pub returns-in-Some-byte_of : goal.returns-in-Some-byte_of
returns-in-Some-byte_of c = sym (c.loop-k.invariant.1 ∙ said_here c.loop-k.before c.args.separator c.args.heaps.now.blobs (length c.args.bytes.now - c.loop-k.k) (length c.args.bytes.now - (c.loop-k.k + 1)) c.loop-k.rest.now c.in-Some.text.now c.in-Some.behind.now c.loop-k.left c.in-Some-byte_of.byte (omega arith) (sym c.in-Some.ensures) c.loop-k.invariant.0 (sym c.byte_of.ensures ∙ c.in-Some-byte_of.is))

pub overflow_sub-left : goal.overflow_sub-left
overflow_sub-left c =
    let h = said_behind c.loop-k.before c.args.separator c.args.heaps.now.blobs (length c.args.bytes.now - c.loop-k.k) (length c.args.bytes.now - (c.loop-k.k + 1)) c.loop-k.rest.now c.in-Some.text.now c.in-Some.behind.now c.loop-k.left (omega arith) (sym c.in-Some.ensures) c.loop-k.invariant.0 (sym c.byte_of.ensures ∙ c.in_default-byte_of.is) in
    rw c.separator_len.ensures.len h.0

pub loop-k-preserved : goal.loop-k-preserved
loop-k-preserved c =
    let m = length c.args.bytes.now - (c.loop-k.k + 1) in
    let h = said_behind c.loop-k.before c.args.separator c.args.heaps.now.blobs (length c.args.bytes.now - c.loop-k.k) m c.loop-k.rest.now c.in-Some.text.now c.in-Some.behind.now c.loop-k.left (omega arith) (sym c.in-Some.ensures) c.loop-k.invariant.0 (sym c.byte_of.ensures ∙ c.in_default-byte_of.is) in
    (still_some c.args.heaps.now.blobs (length c.args.bytes.now - c.loop-k.k) m c.loop-k.rest.now c.in-Some.text.now c.in-Some.behind.now (omega arith) (sym c.in-Some.ensures) c.loop-k.invariant.0, rw c.separator_len.ensures.len (c.loop-k.invariant.1 ∙ h.1))

pub returns : goal.returns
returns c =
    let none = said_end c.args.heaps.now.blobs c.loop-k.rest.now (length c.args.bytes.now - c.loop-k.k) (omega arith) c.loop-k.invariant.0 in
    sym (c.loop-k.invariant.1 ∙ ap (λ (l : List ℕ). slice_get l c.loop-k.left) (said_done c.loop-k.before c.args.separator c.args.heaps.now.blobs (length c.args.bytes.now - c.loop-k.k) c.loop-k.rest.now none))
