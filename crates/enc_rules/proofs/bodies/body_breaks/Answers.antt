use Rattle.std.proofs.Common.{◌<◌, sym, ◌∙◌, arith}
use Rattle.std.specs.Prelude.{◌^◌}
use Rattle.enc_rules.specs.Known.{listed_counts, listed_rows}
use Rattle.enc_rules.proofs.BodiesAt.{body_judged}
use Rattle.enc_rules.proofs.bodies.body_breaks.Goals as goal

pub returns : goal.returns
returns g c =
    let low : c.args.room < 2 ^ 32 = omega arith in
    body_judged (listed_counts c.args.context.now) (listed_rows c.args.context.now) c.args.room c.args.edit.now c.args.row c.in-Some.body.now c.in_ok-given_stands.field-0 c.in-Some.ensures (sym c.is_il.ensures ∙ c.if-not-is_il.false) low c.in_ok-given_stands.ensures
