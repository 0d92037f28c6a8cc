use Rattle.enc_memory_module.proofs.StatedCells.{stated_all}
use Rattle.enc_memory_module.proofs.change.cells_stated.Goals as goal

pub returns : goal.returns
returns c = rw (c.in_ok-push_stated.ensures, c.in_ok-push_front.ensures, c.new-out.ensures.items) (stated_all c.args.table c.args.values.now c.args.code.now)
