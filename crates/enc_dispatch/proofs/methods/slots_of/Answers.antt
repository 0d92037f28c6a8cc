use Rattle.std.proofs.Common.{◌+◌, ap, subst, sym, ◌∙◌, ◌++◌, length}
use Rattle.enc_dispatch.specs.Buckets.{IsSlotOf, AreBuckets, head_over}
use Rattle.enc_dispatch.specs.Growth.{EachLater}
use Rattle.enc_dispatch.specs.Slots.{slot_in}
use Rattle.enc_dispatch.proofs.Each.{each_more}
use Rattle.enc_dispatch.proofs.Found.{one_longer}
use Rattle.enc_dispatch.proofs.Sharing.{nth}
use Rattle.enc_dispatch.proofs.methods.slots_of.Goals as goal

pub loop-k-preserved : goal.loop-k-preserved
loop-k-preserved g c =
    let rows = g.R.CellView.rows c.args.rows.now in
    let was = c.loop-k.invariant in
    let read = c.args.read in
    let slot : IsSlotOf rows (read + c.loop-k.k) c.in_ok-slot.slot = ap (λ x. slot_in (g.R.CellView.rows x) (nth (read + c.loop-k.k))) (sym was.names) ∙ c.in_ok-slot.ensures.slot in
    record {
      parts = subst (EachLater (IsSlotOf rows) read) (sym c.in_ok-push.ensures.items) (each_more (λ k. IsSlotOf rows (read + k)) c.loop-k.all.items c.in_ok-slot.slot c.loop-k.k was.parts was.count slot);
      count = ap length c.in_ok-push.ensures.items ∙ one_longer c.loop-k.all.items c.in_ok-slot.slot c.loop-k.k was.count;
      names = c.in_ok-slot.ensures.names ∙ was.names;
      buckets = subst (λ x. AreBuckets (g.R.CellView.rows x) (head_over c.args.below.now.heads c.slot_for.new.self.heads) (c.args.below.now.next.items ++ c.slot_for.new.self.next.items)) was.names c.in_ok-slot.ensures.buckets;
      entries = c.in_ok-slot.ensures.entries;
      size = c.in_ok-slot.ensures.size ∙ ap (λ n. n + 1) was.size;
    }
