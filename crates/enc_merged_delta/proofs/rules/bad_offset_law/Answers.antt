use Rattle.enc_merged_delta.proofs.CellsSaid.{keeps_offsets}
use Rattle.enc_merged_delta.proofs.rules.bad_offset_law.Goals as goal

pub returns : goal.returns
returns c = keeps_offsets
