use Rattle.enc_base.specs.declared.refusal.StreamName.TheVariants.{Strings}
use Rattle.enc_meta.specs.Built.{with_text, text_passes}
use Rattle.enc_rules.proofs.Filling.{fills_refused, refused_text}
use Rattle.enc_rules.proofs.heaps.add_text.Goals as goal

pub returns-in-Err : goal.returns-in-Err
returns-in-Err c = fills_refused c.in-Err.fault Strings (text_passes c.args.heaps.now c.args.text.now) c.add_text.new.self (with_text c.args.heaps.now c.args.text.now) (refused_text c.args.heaps.now c.args.text.now) c.in-Err.ensures.refused
