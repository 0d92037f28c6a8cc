use Rattle.enc_plain.proofs.likeness.+refs_alike_known.Given as goal

abbrev pub decreases-refs_alike_known : goal.decreases-refs_alike_known
decreases-refs_alike_known g l = l.depth
