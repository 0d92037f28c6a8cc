use Rattle.std.proofs.Common.{ap, ◌∙◌}
use Rattle.std.specs.Prelude.{Bool, List}
use Rattle.enc_opcodes.specs.Sound.{begins_at}
use Rattle.enc_edit_list.specs.Sizes.{placed}
use Rattle.enc_edit_list.specs.declared.body.InstrValue.{InstrValue}
use Rattle.enc_rules.specs.Known.{listed_counts}
use Rattle.enc_rules.specs.Marked.{is_marked}
use Rattle.enc_rules.proofs.BodiesAt.{stands_marked}
use Rattle.enc_rules.proofs.bodies.given_stands.Goals as goal

pub returns : goal.returns
returns g c =
    c.are_parts_sound.ensures
    ∙ stands_marked (listed_counts c.args.context.now) c.args.body.now c.deref.result.now c.args.size c.requires.size
    (λ t. ap (λ (marks : List Bool). is_marked marks t) c.deref.ensures.value ∙ c.in_ok-marks.ensures t ∙ ap (λ (code : List InstrValue). begins_at (placed 0 code) t) c.as_slice.ensures)
