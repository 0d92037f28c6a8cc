use Rattle.std.proofs.Common.{◌≡◌, suc, sym, ◌∙◌, Option, List, ℕ, arith}
use Rattle.enc_meta.specs.Joined.{joined_guid}
use Rattle.enc_meta.proofs.Alone.{guid_alone}
use Rattle.enc_agg.specs.declared.heaps.Measure.TheVariants.{Guids}
use Rattle.enc_agg.proofs.Histories.{heaps_with, heaps_alone}
use Rattle.enc_agg.proofs.Numbers.{guid_stays, guid_last}
use Rattle.enc_agg.proofs.Starts.{stays, begun_last, before_number}
use Rattle.enc_agg.proofs.heaps.guid_in.Goals as goal

pub returns-in-None : goal.returns-in-None
returns-in-None c =
    let next : c.args.k ≡ suc c.in-Some.number = omega (arith, c.in-Some.ensures) in
    let same = stays {X = Option (List ℕ)} c.args.image.now c.args.added.now c.upto.result.now Guids c.in-Some.number (λ hs. joined_guid hs (suc c.in-Some.number)) c.requires c.upto.ensures.front c.upto.ensures.few c.upto.ensures.past (λ hs h low. guid_stays c.in-Some.number hs h low) in
    let alone = rw (c.heaps.ensures, next) at c.guid.ensures in
    rw (next, same, c.in-None.ensures.parts, heaps_alone c.args.image.now) (alone ∙ sym (guid_alone c.args.image.now.heaps (suc c.in-Some.number)))

pub returns-in-Some-newest : goal.returns-in-Some-newest
returns-in-Some-newest c =
    let next : c.args.k ≡ suc c.in-Some.number = omega (arith, c.in-Some.ensures) in
    let same = stays {X = Option (List ℕ)} c.args.image.now c.args.added.now c.upto.result.now Guids c.in-Some.number (λ hs. joined_guid hs (suc c.in-Some.number)) c.requires c.upto.ensures.front c.upto.ensures.few c.upto.ensures.past (λ hs h low. guid_stays c.in-Some.number hs h low) in
    let all = begun_last c.args.image.now c.args.added.now c.upto.result.now c.requires c.upto.ensures.front in
    let begun = before_number c.args.image.now _ _ c.in-Some.number (rw c.in-Some-newest.ensures.parts at all) (rw c.in-Some-newest.ensures.parts at c.upto.ensures.begun) in
    let last = rw (c.heaps-in-Some-newest.ensures, next) at c.guid-in-Some-newest.ensures in
    rw (next, same, c.in-Some-newest.ensures.parts, heaps_with c.args.image.now _ _) (last ∙ sym (guid_last c.in-Some.number _ _ begun))
