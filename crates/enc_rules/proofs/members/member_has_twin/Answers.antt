use Rattle.std.proofs.Common.{ap, ◌∙◌}
use Rattle.enc_rules.specs.Told.{earlier}
use Rattle.enc_rules.proofs.TwinsByTable.{first_member}
use Rattle.enc_rules.proofs.members.member_has_twin.Goals as goal

pub returns : goal.returns
returns g c = record {
  first =
      c.earlier-3.ensures.earlier
      ∙ ap (λ a. earlier a c.earlier-2.result) c.earlier.ensures.earlier
      ∙ ap (earlier (earlier c.in_ok-fields.fields c.in_ok-methods.methods)) c.earlier-2.ensures.earlier
      ∙ first_member c.args.context.now.chain c.args.context.now.list c.in_ok-fields.fields c.in_ok-methods.methods c.in_ok-properties.properties c.in_ok-events.events c.in_ok-fields.ensures.first c.in_ok-methods.ensures.first c.in_ok-properties.ensures.first c.in_ok-events.ensures.first;
  few = c.earlier-3.ensures.few;
}
