use Rattle.std.proofs.Common.{◌≡◌, suc, map, Option, arith}
use Rattle.enc_meta.specs.Heaps.{Counted}
use Rattle.enc_agg.specs.Place.{guid_place}
use Rattle.enc_agg.specs.declared.place.HeapPlace.{HeapPlace}
use Rattle.enc_agg.specs.declared.heaps.Measure.TheVariants.{Guids}
use Rattle.enc_agg.proofs.Histories.{few_added}
use Rattle.enc_agg.proofs.HeapPlaces.{many_parts, base_guid, newest_guid}
use Rattle.enc_agg.proofs.Numbers.{guid_place_stays, guid_place_none, no_zero}
use Rattle.enc_agg.proofs.Starts.{stays, begun_last, before_number}
use Rattle.enc_agg.proofs.heaps.guid_place_in.Goals as goal

pub returns-in_default : goal.returns-in_default
returns-in_default c = let z : c.args.k ≡ 0 = omega (arith, c.in_default.ensures) in rw z (no_zero _)

pub overflow_cast-upto : goal.overflow_cast-upto
overflow_cast-upto c = omega (arith, few_added c.args.image.now c.args.added.now c.requires, c.upto-upto.ensures.few)

pub returns-in-None : goal.returns-in-None
returns-in-None c =
    let next : c.args.k ≡ suc c.in-Some.number = omega (arith, c.in-Some.ensures) in
    let same = stays {X = Option HeapPlace} c.args.image.now c.args.added.now c.upto-upto.result.now Guids c.in-Some.number (λ hs. guid_place (map (λ (h : Counted). h.guids) hs) (suc c.in-Some.number)) c.requires c.upto-upto.ensures.front c.upto-upto.ensures.few c.upto-upto.ensures.past (λ hs h low. guid_place_stays c.in-Some.number hs h low) in
    let alone = rw (c.heaps.ensures, next) at c.own_guid_place.ensures in
    rw (next, same, c.in-None.ensures.parts, base_guid c.args.image.now (suc c.in-Some.number)) alone

pub returns-in-Some-newest : goal.returns-in-Some-newest
returns-in-Some-newest c =
    let next : c.args.k ≡ suc c.in-Some.number = omega (arith, c.in-Some.ensures) in
    let same = stays {X = Option HeapPlace} c.args.image.now c.args.added.now c.upto-upto.result.now Guids c.in-Some.number (λ hs. guid_place (map (λ (h : Counted). h.guids) hs) (suc c.in-Some.number)) c.requires c.upto-upto.ensures.front c.upto-upto.ensures.few c.upto-upto.ensures.past (λ hs h low. guid_place_stays c.in-Some.number hs h low) in
    let all = begun_last c.args.image.now c.args.added.now c.upto-upto.result.now c.requires c.upto-upto.ensures.front in
    let begun = before_number c.args.image.now _ _ c.in-Some.number (rw c.in-Some-newest.ensures.parts at all) (rw c.in-Some-newest.ensures.parts at c.upto-upto.ensures.begun) in
    let many = many_parts c.upto-upto.result.now _ _ c.in-Some-newest.ensures.parts in
    let last = rw (c.heaps-in-Some-newest.ensures, next) at c.own_guid_place-in-Some-newest.ensures in
    rw (next, same, c.in-Some-newest.ensures.parts, newest_guid c.args.image.now _ _ (suc c.in-Some.number), guid_place_none c.in-Some.number _ begun, ← many) last
