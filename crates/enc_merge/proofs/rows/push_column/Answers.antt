use Rattle.enc_merge.proofs.NewestRows.{more_held}
use Rattle.enc_merge.proofs.rows.push_column.Goals as goal

pub returns : goal.returns
returns c =
    more_held c.args.last.now c.args.token c.args.i c.args.numbers.now.items c.push.new.self.items c.args.column c.number-number.result c.requires.so_far c.requires.column c.number-number.ensures
    c.in_ok-push.ensures.items
