use Rattle.std.proofs.Common.{map, Option, arith}
use Rattle.enc_meta.specs.HeapKinds.{bytes_in}
use Rattle.enc_agg.specs.Place.{heap_place}
use Rattle.enc_agg.specs.declared.place.HeapPlace.{HeapPlace}
use Rattle.enc_agg.specs.declared.heaps.Measure.TheVariants.{Bytes}
use Rattle.enc_agg.proofs.Histories.{few_added}
use Rattle.enc_agg.proofs.HeapPlaces.{many_parts, base_place, newest_place}
use Rattle.enc_agg.proofs.Numbers.{heap_place_stays}
use Rattle.enc_agg.proofs.Starts.{stays, begun_last}
use Rattle.enc_agg.proofs.heaps.heap_place_in.Goals as goal

pub returns-in_default : goal.returns-in_default
returns-in_default c =
    let same = stays {X = Option HeapPlace} c.args.image.now c.args.added.now c.upto-upto.result.now (Bytes c.args.heap) c.args.offset (λ hs. heap_place (map (bytes_in c.args.heap) hs) c.args.offset) c.requires c.upto-upto.ensures.front c.upto-upto.ensures.few c.upto-upto.ensures.past (λ hs h low. heap_place_stays c.args.heap c.args.offset hs h low) in
    rw (same, c.in_default.ensures.parts, base_place c.args.image.now c.args.heap c.args.offset) (rw c.heaps.ensures at c.own_place.ensures)

pub overflow_cast-upto : goal.overflow_cast-upto
overflow_cast-upto c = omega (arith, few_added c.args.image.now c.args.added.now c.requires, c.upto-upto.ensures.few)

pub returns : goal.returns
returns c =
    let same = stays {X = Option HeapPlace} c.args.image.now c.args.added.now c.upto-upto.result.now (Bytes c.args.heap) c.args.offset (λ hs. heap_place (map (bytes_in c.args.heap) hs) c.args.offset) c.requires c.upto-upto.ensures.front c.upto-upto.ensures.few c.upto-upto.ensures.past (λ hs h low. heap_place_stays c.args.heap c.args.offset hs h low) in
    let all = begun_last c.args.image.now c.args.added.now c.upto-upto.result.now c.requires c.upto-upto.ensures.front in
    let begun = rw c.in-Some.ensures.parts at c.upto-upto.ensures.begun in
    let many = many_parts c.upto-upto.result.now _ _ c.in-Some.ensures.parts in
    let place = newest_place c.args.image.now _ _ c.args.heap c.args.offset (rw c.in-Some.ensures.parts at all) begun in
    rw (same, c.in-Some.ensures.parts, place, ← many, ← c.of.ensures) (rw c.heaps-2.ensures at c.own_place-2.ensures)
