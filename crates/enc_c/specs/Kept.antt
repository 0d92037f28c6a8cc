-- What always holds of an open handle, beside what holds of its chain.
use Rattle.std.specs.Prelude.{◌≡◌, true}
use Rattle.enc_merge.specs.Merges.{AllShort}
use Rattle.enc_c.specs.State.{State}

-- where all deltas are said to be short, they are
abbrev pub IsKept : State → Type 0
IsKept s = s.short ≡ true → AllShort s.followed.deltas
