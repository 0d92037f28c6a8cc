use Rattle.enc_writer.proofs.NumbersSay.{number_says}
use Rattle.enc_writer.proofs.numbers.plain_number.Goals as goal

pub returns : goal.returns
returns g c =
    let j = c.args.context.now in
    number_says j.chain j.list c.args.row c.args.i c.args.column c.number.result c.requires.may c.requires.row c.requires.column c.requires.kind c.requires.body c.requires.field c.number.ensures
