use Rattle.std.proofs.Common.{reverse, arith}
use Rattle.std.proofs.lemmas.List.{length-reverse}
use Rattle.enc_ppdb.proofs.Tellers.{are_told, few_told}
use Rattle.enc_ppdb.proofs.chain.PdbChain.told.Goals as goal

pub told-requires : goal.told-requires
told-requires c = record { few = λ u. few_told c.self.inside.added.items c.self.inside.places u c.self.invariant.0 c.self.invariant.1.places }

pub returns : goal.returns
returns c = rw (← c.self.view_is) (are_told (reverse c.self.inside.added.items) _ c.self.inside.places _ c.in_ok-listings.listings c.self.invariant.1.places
    (omega (arith, c.len.ensures, length-reverse c.self.inside.added.items)) c.in_ok-listings.ensures)
