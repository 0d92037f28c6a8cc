use Rattle.std.proofs.Common.{ap}
use Rattle.std.proofs.lemmas.Result.{IfOk-weaker}
use Rattle.enc_generator.proofs.Cases.{base_may, base_fits, base_made}
use Rattle.enc_generator.proofs.base.make_base.Goals as goal

pub apply_edits-requires-clause-form : goal.apply_edits-requires-clause-form
apply_edits-requires-clause-form c = base_fits _ c.in_ok-base_edits.ensures

pub apply_edits-requires-clause-rules : goal.apply_edits-requires-clause-rules
apply_edits-requires-clause-rules c = base_may _ _ (ap (λ m. m.plain) c.in_ok-begun.ensures) c.in_ok-base_edits.ensures

pub returns : goal.returns
returns c = IfOk-weaker c.apply_edits.result _ _ (λ m h. base_made _ m.plain _ (ap (λ m. m.plain) c.in_ok-begun.ensures) c.in_ok-base_edits.ensures h) c.apply_edits.ensures
