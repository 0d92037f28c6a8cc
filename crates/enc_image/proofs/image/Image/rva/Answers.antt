use Rattle.std.proofs.Common.{refl}
use Rattle.enc_schema.specs.Schema.{columns_in}
use Rattle.enc_image.proofs.BodyPlaces.{image_parts}
use Rattle.enc_image.proofs.image.Image.rva.Goals as goal

pub number-requires-clause-column : goal.number-requires-clause-column
unfolding columns_in
number-requires-clause-column c = rw c.requires.table refl

pub returns-clause-some : goal.returns-clause-some
returns-clause-some c = image_parts _ c.args.method c.number.result c.number.ensures.sound c.requires.row c.requires.table c.number.ensures.raw
