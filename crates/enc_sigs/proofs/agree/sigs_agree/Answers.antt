use Rattle.std.proofs.Common.{◌∙◌, ap}
use Rattle.enc_sigs.specs.Walk.{both_end}
use Rattle.enc_sigs.proofs.Agreed.{sigs_agreed}
use Rattle.enc_sigs.proofs.agree.sigs_agree.Goals as goal

pub returns : goal.returns
returns g c = λ rel h. c.do_end.ensures ∙ ap both_end (c.front_of_both.ensures rel h) ∙ sigs_agreed rel c.args.kind c.args.a.now c.args.b.now
