use Rattle.std.proofs.Common.{refl, sym, ◌∙◌}
use Rattle.enc_agg.proofs.Directories.{place_within, place_found, no_place}
use Rattle.enc_agg.proofs.EveryPlace.{kept_found}
use Rattle.enc_agg.proofs.earlier.find.Goals as goal

pub returns-in-None : goal.returns-in-None
returns-in-None c = no_place c.args.added.now c.args.token
    (sym c.in-None.is ∙ kept_found c.args.added.now c.args.places.now c.args.token _ c.last_upto.result refl c.requires c.last_upto.ensures)

pub front-requires : goal.front-requires
front-requires c = place_within c.args.added.now c.args.token c.in-Some.place
    (sym c.in-Some.is ∙ kept_found c.args.added.now c.args.places.now c.args.token _ c.last_upto.result refl c.requires c.last_upto.ensures)

pub returns-in-Some : goal.returns-in-Some
returns-in-Some c = place_found c.args.added.now c.front.result.now c.args.token c.in-Some.place
    (sym c.in-Some.is ∙ kept_found c.args.added.now c.args.places.now c.args.token _ c.last_upto.result refl c.requires c.last_upto.ensures)
    c.front.ensures
