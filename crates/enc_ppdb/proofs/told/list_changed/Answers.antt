use Rattle.std.proofs.Common.{sym}
use Rattle.std.proofs.lemmas.Option.{get_or_from_slice_get, slice_get_within}
use Rattle.enc_generation_map.proofs.Keeping.{those_more, no_listings}
use Rattle.enc_ppdb.specs.Told.{own_told}
use Rattle.enc_ppdb.proofs.told.list_changed.Goals as goal

pub loop-k-init : goal.loop-k-init
loop-k-init c = no_listings c.args.places.now (own_told c.args.generation) c.new-listings.result c.new-listings.ensures.places c.new-listings.ensures.counts

pub loop-k-preserved : goal.loop-k-preserved
loop-k-preserved c =
    let put = c.in_ok-push.ensures in
    let method = c.token-method.result in
    those_more c.args.places.now (own_told c.args.generation) c.args.changed.now c.loop-k.k c.count.result method method c.own_told-place.result c.loop-k.listings c.push.new.self
    (slice_get_within c.args.changed.now c.loop-k.k method c.token-method.ensures)
    (sym (get_or_from_slice_get c.args.changed.now c.loop-k.k method method c.token-method.ensures)) c.count.ensures c.own_told-place.ensures put.counts put.places c.loop-k.invariant
