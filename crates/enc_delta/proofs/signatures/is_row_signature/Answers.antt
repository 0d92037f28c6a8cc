use Rattle.std.proofs.Common.{ap, ◌∙◌}
use Rattle.enc_delta.specs.Context.{Joined}
use Rattle.enc_delta.specs.Delta.{listed, place_in}
use Rattle.enc_delta.proofs.SignaturesAfter.{row_judged}
use Rattle.enc_delta.proofs.signatures.is_row_signature.Goals as goal

pub returns-in-Some-clause-good : goal.returns-in-Some-clause-good
returns-in-Some-clause-good g c = row_judged c.args.context.now c.args.token c.args.column _ _ _ c.requires.column (c.in-Some.ensures ∙ ap (λ (j : Joined). place_in (listed j.delta) c.args.token) c.context.view_is) c.own.ensures c.is_signature_at.ensures.good
