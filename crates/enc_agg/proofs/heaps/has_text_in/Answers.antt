use Rattle.std.proofs.Common.{refl, sym, ap, ◌∙◌, Option, List, ℕ}
use Rattle.std.specs.Prelude.{is_some}
use Rattle.enc_meta.specs.Heaps.{text_entry}
use Rattle.enc_meta.specs.Joined.{joined_lengths, joined_text}
use Rattle.enc_meta.specs.declared.heap.Heap.TheVariants.{Strings}
use Rattle.enc_meta.proofs.Alone.{text_alone}
use Rattle.enc_delta.proofs.OneHeapMore.{zero_entry, text_before, text_behind}
use Rattle.enc_agg.specs.declared.heaps.Measure.TheVariants.{Bytes}
use Rattle.enc_agg.proofs.Histories.{last_added, heaps_with, heaps_alone}
use Rattle.enc_agg.proofs.Starts.{stays, begun_last}
use Rattle.enc_agg.proofs.heaps.has_text_in.Goals as goal

pub returns-in_default : goal.returns-in_default
returns-in_default c =
    let same = stays {X = Option (List ℕ)} c.args.image.now c.args.added.now c.upto.result.now (Bytes Strings) c.args.offset (λ hs. joined_text hs c.args.offset) c.requires c.upto.ensures.front c.upto.ensures.few c.upto.ensures.past (λ hs h low. text_before hs h (joined_lengths hs) c.args.offset refl low) in
    rw (same, c.in_default.ensures.parts, heaps_alone c.args.image.now) ((rw c.heaps.ensures at c.has_text.ensures) ∙ ap is_some (sym (text_alone c.args.image.now.heaps c.args.offset)))

pub returns-then-offset-eq0 : goal.returns-then-offset-eq0
returns-then-offset-eq0 c = ap is_some (zero_entry text_entry _ c.args.offset c.if-offset-eq0.true)

pub returns : goal.returns
returns c =
    let same = stays {X = Option (List ℕ)} c.args.image.now c.args.added.now c.upto.result.now (Bytes Strings) c.args.offset (λ hs. joined_text hs c.args.offset) c.requires c.upto.ensures.front c.upto.ensures.few c.upto.ensures.past (λ hs h low. text_before hs h (joined_lengths hs) c.args.offset refl low) in
    let all = begun_last c.args.image.now c.args.added.now c.upto.result.now c.requires c.upto.ensures.front in
    let last = last_added c.args.image.now _ _ (rw c.in-Some.ensures.parts at all) in
    let begun = rw c.in-Some.ensures.parts at c.upto.ensures.begun in
    rw (same, c.in-Some.ensures.parts, heaps_with c.args.image.now _ _) ((rw c.heaps-2.ensures at c.has_text_entry.ensures) ∙ ap is_some (sym (text_behind _ _ _ c.args.offset last.0.before c.if-offset-eq0.false begun)))
