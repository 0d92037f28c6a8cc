use Rattle.std.proofs.Common.{◌∙◌}
use Rattle.enc_image.specs.Base.{users_of}
use Rattle.enc_image.proofs.BodyPlaces.{loaded_stands}
use Rattle.enc_image.proofs.Rows.{body_cell}
use Rattle.enc_image.proofs.view.ImageModuleView.code_place.Goals as goal

pub returns-clause-body : goal.returns-clause-body
returns-clause-body c = rw c.from.ensures (rw c.rva.ensures.raw at (body_cell _ c.args.method c.requires.row c.requires.table))

pub returns-clause-some : goal.returns-clause-some
returns-clause-some c = rw c.from.ensures (loaded_stands c.args.self.now.loaded (users_of c.args.self.now) c.rva.result ∙ c.rva.ensures.some)
