use Rattle.enc_ppdb.proofs.Tellers.{both_listed}
use Rattle.enc_ppdb.specs.Told.{own_told}
use Rattle.enc_ppdb.proofs.told.told.Goals as goal

pub returns : goal.returns
returns c = both_listed c.args.places.now c.args.changed.now c.args.pdb.now c.in-Some.pdb (own_told c.args.generation) c.list_named.new.listings c.in-Some.is
    (c.in_ok-list_named.ensures c.args.changed.now c.in_ok-listings.ensures)
