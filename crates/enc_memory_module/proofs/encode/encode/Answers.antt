use Rattle.enc_memory_module.specs.Encoded.{body_of_row, users_of_rows}
use Rattle.enc_memory_module.proofs.Gathering.{starts_none, can_be_encoded, rows_kept}
use Rattle.enc_memory_module.proofs.encode.encode.Goals as goal

pub encoded_rows-requires-clause-starts : goal.encoded_rows-requires-clause-starts
encoded_rows-requires-clause-starts c = starts_none c.in_ok-heaps.heaps (users_of_rows c.args.rows.now) c.in_ok-heaps.ensures

pub encoded_rows-requires-clause-sound : goal.encoded_rows-requires-clause-sound
encoded_rows-requires-clause-sound c =
    λ n r there. can_be_encoded c.in_ok-heaps.heaps (body_of_row r) (c.requires.sound n r there) (rows_kept c.in_ok-heaps.heaps c.args.rows.now n r c.in_ok-heaps.ensures there)
