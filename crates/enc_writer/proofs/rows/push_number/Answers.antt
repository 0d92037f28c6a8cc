use Rattle.enc_writer.proofs.RowsSay.{more_says}
use Rattle.enc_writer.proofs.rows.push_number.Goals as goal

pub returns-clause-says : goal.returns-clause-says
returns-clause-says g c =
    let j = c.args.context.now in
    more_says j.chain j.list c.args.bodies.now.il.items c.args.row c.args.i c.args.numbers.now.items c.push.new.self.items c.args.column c.in_ok-number.number
    c.requires.so_far c.requires.column c.in_ok-number.ensures.says c.in_ok-push.ensures.items
