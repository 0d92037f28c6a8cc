use Rattle.std.proofs.Common.{refl, ◌∙◌}
use Rattle.enc_key_map.specs.Index.{value_at}
use Rattle.enc_generation_map.proofs.Keeping.{those_more, no_listings}
use Rattle.enc_agg.specs.Directory.{row_key}
use Rattle.enc_agg.proofs.listings.listings_behind.Goals as goal

pub loop-k-init : goal.loop-k-init
loop-k-init c = no_listings c.args.places.now (λ u. value_at c.args.own.now (row_key u)) c.new-listings.result c.new-listings.ensures.places c.new-listings.ensures.counts

pub loop-k-preserved : goal.loop-k-preserved
loop-k-preserved c =
    let put = c.in_ok-push.ensures in
    let place = rw c.row_key.ensures at (c.copied-place.ensures ∙ c.get.ensures) in
    those_more c.args.places.now (λ u. value_at c.args.own.now (row_key u)) c.args.tokens.now c.loop-k.k c.count.result _ _ c.copied-place.result c.loop-k.listings c.push.new.self c.loop-k-test.true
    refl c.count.ensures place put.counts put.places c.loop-k.invariant
