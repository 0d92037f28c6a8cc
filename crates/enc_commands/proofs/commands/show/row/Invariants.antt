use Rattle.enc_commands.proofs.commands.show.row.Given as goal

-- the ledger is that of the blank
abbrev pub ghosts-located : goal.ghosts-located
ghosts-located a = record { name = a.blank.name; parts = a.blank.parts }
