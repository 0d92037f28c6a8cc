use Rattle.std.proofs.Common.{sym}
use Rattle.std.proofs.lemmas.Iterator.Adapters.{position_from-zero}
use Rattle.enc_plain.specs.Module.{has_kid}
use Rattle.enc_memory_module.proofs.plain.PlainTable.first_with.Goals as goal

pub loop-n-init : goal.loop-n-init
loop-n-init c = sym (position_from-zero (has_kid c.args.child) c.self.inside.rows.items)
