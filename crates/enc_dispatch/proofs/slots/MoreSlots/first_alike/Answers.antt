use Rattle.std.proofs.Common.{ap, refl, sym, ◌∙◌, ◌++◌, length}
use Rattle.enc_dispatch.specs.Buckets.{alike_from, head_over}
use Rattle.enc_dispatch.specs.Slots.{shares_slot}
use Rattle.enc_dispatch.specs.Walks.{method_at}
use Rattle.enc_dispatch.proofs.Found.{alike_steps, alike_here, alike_next, alike_end, newest_met, next_met, next_less, behind_is}
use Rattle.enc_dispatch.proofs.slots.MoreSlots.first_alike.Goals as goal

pub loop-at-init : goal.loop-at-init
loop-at-init g c =
    let rows = g.R.CellView.rows c.args.names.now in
    let size = length (c.args.below.now.next.items ++ c.args.self.now.next.items) in
    let head = c.head-at.ensures ∙ c.requires.buckets.heads c.args.key in (
      ap (alike_from rows c.args.key c.args.method) head ∙ alike_steps rows c.args.key c.args.method size,
      newest_met rows c.args.key size c.head-at.result head,
      refl,
    )

pub returns-then-share_slot-clause-first : goal.returns-then-share_slot-clause-first
returns-then-share_slot-clause-first g c =
    let rows = g.R.CellView.rows c.args.names.now in
    let shares = ap (λ n. shares_slot (g.R.CellView.rows n) (method_at c.in-Some.row) c.args.method) (sym c.loop-at.invariant.2) ∙ sym c.share_slot.ensures.share ∙ c.if-share_slot.true in
    alike_here rows c.args.key c.args.method c.in-Some.row _ shares (ap (alike_from rows c.args.key c.args.method) (sym c.in-Some.is) ∙ c.loop-at.invariant.0)

pub loop-at-preserved : goal.loop-at-preserved
loop-at-preserved g c =
    let rows = g.R.CellView.rows c.args.names.now in
    let next_all = c.args.below.now.next.items ++ c.args.self.now.next.items in
    let other = ap (λ n. shares_slot (g.R.CellView.rows n) (method_at c.in-Some.row) c.args.method) (sym c.loop-at.invariant.2) ∙ sym c.share_slot.ensures.share ∙ c.if-share_slot.false in
    let met = c.loop-at.invariant.1 c.in-Some.row c.in-Some.is in
    let next = behind_is rows (head_over c.args.below.now.heads c.args.self.now.heads) next_all c.args.key c.in-Some.row c.before-at.result c.requires.buckets met.0 met.2 c.before-at.ensures in (
      alike_next rows c.args.key c.args.method c.in-Some.row c.before-at.result _ other next (ap (alike_from rows c.args.key c.args.method) (sym c.in-Some.is) ∙ c.loop-at.invariant.0),
      next_met rows c.args.key (length next_all) c.in-Some.row c.before-at.result met.1 next,
      c.share_slot.ensures.kept ∙ c.loop-at.invariant.2,
    )

pub returns-clause-first : goal.returns-clause-first
returns-clause-first g c = alike_end (g.R.CellView.rows c.args.names.now) c.args.key c.args.method c.loop-at.at _ c.in_default.is c.loop-at.invariant.0

pub before-at-requires-clause-some : goal.before-at-requires-clause-some
before-at-requires-clause-some g c = (c.loop-at.invariant.1 c.in-Some.row c.in-Some.is).0

pub before-at-requires-clause-there : goal.before-at-requires-clause-there
before-at-requires-clause-there g c = (c.loop-at.invariant.1 c.in-Some.row c.in-Some.is).1

pub loop-at-smaller : goal.loop-at-smaller
loop-at-smaller g c =
    let met = c.loop-at.invariant.1 c.in-Some.row c.in-Some.is in
    next_less (g.R.CellView.rows c.args.names.now) c.args.key c.in-Some.row c.before-at.result c.loop-at.at met.0 c.in-Some.is
    (behind_is (g.R.CellView.rows c.args.names.now) (head_over c.args.below.now.heads c.args.self.now.heads) (c.args.below.now.next.items ++ c.args.self.now.next.items) c.args.key c.in-Some.row c.before-at.result c.requires.buckets met.0 met.2 c.before-at.ensures)
