use Rattle.std.proofs.Common.{length}
use Rattle.enc_token_map.proofs.SectionsMoved.{AreMovedUpTo}
use Rattle.enc_token_map.proofs.sections.moved_sections.Given as goal

abbrev pub invariant-loop-section : goal.invariant-loop-section
invariant-loop-section g l = AreMovedUpTo (g.M.Moves.to l.moves) l.sections l.out.items l.rest

abbrev pub decreases-loop-section : goal.decreases-loop-section
decreases-loop-section g l = length l.rest
