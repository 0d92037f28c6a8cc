use Rattle.std.proofs.Common.{sym, arith}
use Rattle.std.proofs.lemmas.Grind.{common_steps}
use Rattle.enc_session.proofs.Contents.{object_shown}
use Rattle.enc_session.proofs.objects.push_object.Goals as goal

pub returns : goal.returns
returns c = rw (sym (object_shown c.args.objects.now c.args.id c.requires)) (grind (arith, common_steps))
