use Rattle.enc_rows.proofs.tables.Tables.cell.Given as goal

abbrev pub ghosts-raw_counted : goal.ghosts-raw_counted
ghosts-raw_counted a = record { name = a.blank.name; parts = a.blank.parts }
