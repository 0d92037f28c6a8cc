use Rattle.enc_text.proofs.Joined.{joined_start, joined_step}
use Rattle.enc_text.proofs.rows.push_cells.Goals as goal

pub loop-i-init : goal.loop-i-init
loop-i-init g c = joined_start _ _

pub loop-i-preserved : goal.loop-i-preserved
loop-i-preserved g c = joined_step _ _ _ _ _ c.loop-i.invariant c.in_ok-push_cell.ensures
