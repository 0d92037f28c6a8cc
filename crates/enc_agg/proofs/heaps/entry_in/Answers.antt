use Rattle.std.proofs.Common.{refl, sym, ◌∙◌, Option, List, ℕ}
use Rattle.enc_meta.specs.Joined.{joined_lengths}
use Rattle.enc_meta.specs.HeapKinds.{joined_at}
use Rattle.enc_meta.proofs.Alone.{heap_alone}
use Rattle.enc_delta.proofs.OneHeapMore.{zero_entry, heap_before, heap_behind}
use Rattle.enc_agg.specs.declared.heaps.Measure.TheVariants.{Bytes}
use Rattle.enc_agg.proofs.Histories.{last_added, heaps_with, heaps_alone}
use Rattle.enc_agg.proofs.Starts.{stays, begun_last}
use Rattle.enc_agg.proofs.heaps.entry_in.Goals as goal

pub returns-in_default : goal.returns-in_default
returns-in_default c =
    let same = stays {X = Option (List ℕ)} c.args.image.now c.args.added.now c.upto.result.now (Bytes c.args.heap) c.args.offset (λ hs. joined_at c.args.heap hs c.args.offset) c.requires c.upto.ensures.front c.upto.ensures.few c.upto.ensures.past (λ hs h low. heap_before c.args.heap hs h (joined_lengths hs) c.args.offset refl low) in
    rw (same, c.in_default.ensures.parts, heaps_alone c.args.image.now) ((rw c.heaps.ensures at c.at.ensures) ∙ sym (heap_alone c.args.heap c.args.image.now.heaps c.args.offset))

pub returns-then-offset-eq0 : goal.returns-then-offset-eq0
returns-then-offset-eq0 c = zero_entry _ _ c.args.offset c.if-offset-eq0.true

pub returns : goal.returns
returns c =
    let same = stays {X = Option (List ℕ)} c.args.image.now c.args.added.now c.upto.result.now (Bytes c.args.heap) c.args.offset (λ hs. joined_at c.args.heap hs c.args.offset) c.requires c.upto.ensures.front c.upto.ensures.few c.upto.ensures.past (λ hs h low. heap_before c.args.heap hs h (joined_lengths hs) c.args.offset refl low) in
    let all = begun_last c.args.image.now c.args.added.now c.upto.result.now c.requires c.upto.ensures.front in
    let last = last_added c.args.image.now _ _ (rw c.in-Some.ensures.parts at all) in
    let begun = rw c.in-Some.ensures.parts at c.upto.ensures.begun in
    rw (same, c.in-Some.ensures.parts, heaps_with c.args.image.now _ _) ((rw (c.heaps-2.ensures, c.of.ensures) at c.entry.ensures) ∙ sym (heap_behind c.args.heap _ _ _ c.args.offset last.0.before c.if-offset-eq0.false begun))
