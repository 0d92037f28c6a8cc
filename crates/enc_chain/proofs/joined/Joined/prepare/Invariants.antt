use Rattle.enc_chain.proofs.joined.Joined.prepare.Given as goal

-- the ledger is that of the blank
abbrev pub ghosts-ready_of : goal.ghosts-ready_of
ghosts-ready_of a = record { name = a.blank.name; parts = a.blank.parts }
