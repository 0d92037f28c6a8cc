use Rattle.enc_plain.proofs.likeness.+refs_alike.Given as goal

abbrev pub decreases-refs_alike : goal.decreases-refs_alike
decreases-refs_alike g l = l.depth
