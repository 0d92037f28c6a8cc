use Rattle.std.proofs.Common.{◌≡◌}
use Rattle.enc_schema.specs.Widths.{column_start}
use Rattle.enc_schema.proofs.Kept.{start_within}
use Rattle.enc_schema.proofs.widths.Widths.start.Goals as goal

pub returns-clause-within : goal.returns-clause-within
unfolding column_start
returns-clause-within c =
    let e : c.from.result ≡ column_start c.args.self.now c.args.table c.args.column = cc in
    rw e (start_within c.args.self.now c.args.table c.args.column)
