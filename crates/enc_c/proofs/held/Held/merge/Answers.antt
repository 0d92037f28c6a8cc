use Rattle.std.proofs.Common.{◌≡◌, ◌≤◌, Ok, Err, ap, subst, inl, length, arith}
use Rattle.enc_merge.proofs.ShortRead.{short_last}
use Rattle.enc_merge.specs.declared.fault.MergeFault.{MergeFault}
use Rattle.enc_c.specs.State.{State}
use Rattle.enc_c.proofs.MergedLast.{MergesAs, merged_of}
use Rattle.enc_c.proofs.held.Held.merge.Goals as goal

pub merge_last-requires-clause-short : goal.merge_last-requires-clause-short
merge_last-requires-clause-short c =
    let h = c.self.inside in
    rw c.rows.ensures (short_last h.chain.rows.deltas (c.self.invariant c.if-not-self.false))

pub returns-in-Ok : goal.returns-in-Ok
returns-in-Ok c =
    let h = c.self.inside in
    let same : length h.chain.rows.deltas ≡ length c.args.self.now.followed.deltas = ap (λ (s : State). length s.followed.deltas) c.self.view_is in
    let two : 2 ≤ length h.chain.rows.deltas = omega (arith, same, c.if-delta_count-lt2.false, c.delta_count.ensures) in
    subst (λ (s : State). MergesAs s (Ok c.in-Ok.files)) c.self.view_is
    (merged_of h.chain.rows c.rows.result.now h.chain.points c.points.result.now h.short (Ok c.in-Ok.files) c.rows.ensures c.points.ensures c.if-not-self.false two c.holds.ensures.go c.in-Ok.ensures)

pub returns-in-Err-TooLarge : goal.returns-in-Err-TooLarge
returns-in-Err-TooLarge c =
    let h = c.self.inside in
    let same : length h.chain.rows.deltas ≡ length c.args.self.now.followed.deltas = ap (λ (s : State). length s.followed.deltas) c.self.view_is in
    let two : 2 ≤ length h.chain.rows.deltas = omega (arith, same, c.if-delta_count-lt2.false, c.delta_count.ensures) in
    inl (subst (λ (e : MergeFault). MergesAs c.args.self.now (Err e)) c.in-Err-TooLarge.field-0-is (subst (λ (s : State). MergesAs s (Err c.in-Err-TooLarge.field-0)) c.self.view_is
    (merged_of h.chain.rows c.rows.result.now h.chain.points c.points.result.now h.short (Err c.in-Err-TooLarge.field-0) c.rows.ensures c.points.ensures c.if-not-self.false two c.holds.ensures.go c.in-Err-TooLarge.ensures)))

pub returns-in-Err-Deep : goal.returns-in-Err-Deep
returns-in-Err-Deep c =
    let h = c.self.inside in
    let same : length h.chain.rows.deltas ≡ length c.args.self.now.followed.deltas = ap (λ (s : State). length s.followed.deltas) c.self.view_is in
    let two : 2 ≤ length h.chain.rows.deltas = omega (arith, same, c.if-delta_count-lt2.false, c.delta_count.ensures) in
    inl (subst (λ (e : MergeFault). MergesAs c.args.self.now (Err e)) c.in-Err-Deep.field-0-is (subst (λ (s : State). MergesAs s (Err c.in-Err-Deep.field-0)) c.self.view_is
    (merged_of h.chain.rows c.rows.result.now h.chain.points c.points.result.now h.short (Err c.in-Err-Deep.field-0) c.rows.ensures c.points.ensures c.if-not-self.false two c.holds.ensures.go c.in-Err-Deep.ensures)))
