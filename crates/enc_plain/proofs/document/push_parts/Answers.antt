use Rattle.std.proofs.Common.{◌≡◌, ◌+◌, ◌-◌, ◌++◌, ◌∙◌, length, sym, ap, arith, ℕ, List}
use Rattle.std.proofs.lemmas.Bool.Decides.{nat_tests}
use Rattle.std.proofs.lemmas.List.{append-nil, append_assoc}
use Rattle.enc_plain.specs.DebugSeen.{parts_said}
use Rattle.enc_plain.specs.DocumentName.{name_parts_in, separator_bytes}
use Rattle.enc_plain.proofs.NameParts.{said_more, said_done, said_end, said_fail, still_some}
use Rattle.enc_plain.proofs.document.push_parts.Goals as goal

regroup : (a b d e : List ℕ) → a ++ (b ++ (d ++ e)) ≡ (a ++ (b ++ d)) ++ e
regroup a b d e = ap (λ (l : List ℕ). a ++ l) (sym (append_assoc b d e)) ∙ sym (append_assoc a (b ++ d) e)

pub returns-then-is_empty : goal.returns-then-is_empty
returns-then-is_empty c = sym (c.loop-i.invariant.1 ∙ ap (λ (l : List ℕ). c.loop-i.out.items ++ l) (said_done c.loop-i.before c.args.separator c.args.heaps.now.blobs (length c.args.bytes.now - c.loop-i.i) c.loop-i.rest.now (grind (arith, nat_tests))) ∙ append-nil c.loop-i.out.items)

pub unreachable-requires : goal.unreachable-requires
unreachable-requires c = said_fail c.args.heaps.now.blobs (length c.args.bytes.now - c.loop-i.i) (length c.args.bytes.now - c.loop-i.i - 1) c.loop-i.rest.now (omega arith) (grind (arith, nat_tests)) (sym c.in_default.ensures) c.loop-i.invariant.0

pub loop-i-preserved : goal.loop-i-preserved
loop-i-preserved c =
    let m = length c.args.bytes.now - (c.loop-i.i + 1) in
    let h = said_more c.loop-i.before c.args.separator c.args.heaps.now.blobs (length c.args.bytes.now - c.loop-i.i) m c.loop-i.rest.now c.in-Some.text.now c.in-Some.behind.now (omega arith) (sym c.in-Some.ensures) c.loop-i.invariant.0 in
    (still_some c.args.heaps.now.blobs (length c.args.bytes.now - c.loop-i.i) m c.loop-i.rest.now c.in-Some.text.now c.in-Some.behind.now (omega arith) (sym c.in-Some.ensures) c.loop-i.invariant.0, c.loop-i.invariant.1 ∙ ap (λ (l : List ℕ). c.loop-i.out.items ++ l) h ∙ regroup c.loop-i.out.items (separator_bytes c.loop-i.before) c.in-Some.text.now (parts_said c.args.separator c.args.separator (name_parts_in c.args.heaps.now.blobs m c.in-Some.behind.now)) ∙ ap (λ (l : List ℕ). l ++ parts_said c.args.separator c.args.separator (name_parts_in c.args.heaps.now.blobs m c.in-Some.behind.now)) (sym c.in_ok-push_part.ensures))

pub returns : goal.returns
returns c = sym (c.loop-i.invariant.1 ∙ ap (λ (l : List ℕ). c.loop-i.out.items ++ l) (said_done c.loop-i.before c.args.separator c.args.heaps.now.blobs (length c.args.bytes.now - c.loop-i.i) c.loop-i.rest.now (said_end c.args.heaps.now.blobs c.loop-i.rest.now (length c.args.bytes.now - c.loop-i.i) (omega arith) c.loop-i.invariant.0)) ∙ append-nil c.loop-i.out.items)
