use Rattle.std.proofs.Common.{sym, ◌∙◌}
use Rattle.enc_agg.proofs.Directories.{place_within, place_found, no_place}
use Rattle.enc_agg.proofs.directory.find.Goals as goal

pub front-requires : goal.front-requires
front-requires c = place_within c.args.added.now c.args.token c.in-Some.place (sym c.in-Some.is ∙ c.place.ensures ∙ c.requires c.args.token)

pub returns-in-None : goal.returns-in-None
returns-in-None c = no_place c.args.added.now c.args.token (sym c.in-None.is ∙ c.place.ensures ∙ c.requires c.args.token)

pub returns-in-Some : goal.returns-in-Some
returns-in-Some c = place_found c.args.added.now c.front.result.now c.args.token c.in-Some.place (sym c.in-Some.is ∙ c.place.ensures ∙ c.requires c.args.token) c.front.ensures
