use Rattle.enc_agg.proofs.EveryPlace.{are_listings, few_places}
use Rattle.enc_agg.proofs.aggregate.Aggregate.listings.Goals as goal

pub listings_behind-requires : goal.listings_behind-requires
listings_behind-requires c = record { few = λ u. few_places c.self.inside.image c.self.inside.added.items c.self.inside.places u c.self.invariant.deltas.all c.self.invariant.places }

pub returns : goal.returns
returns c = rw (← c.self.view_is) (are_listings _ c.self.inside.places c.args.own.now c.args.tokens.now c.in_ok-listings.listings c.self.invariant.places
    (rw (← c.self.view_is) at c.requires) c.in_ok-listings.ensures)
