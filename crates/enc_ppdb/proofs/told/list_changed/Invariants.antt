use Rattle.std.proofs.Common.{take}
use Rattle.enc_generation_map.specs.Places.{AreOfThose}
use Rattle.enc_ppdb.specs.Told.{own_told}
use Rattle.enc_ppdb.proofs.told.list_changed.Given as goal

-- the methods so far are listed
abbrev pub invariant-loop-k : goal.invariant-loop-k
invariant-loop-k l = AreOfThose l.places (take l.k l.changed) (own_told l.generation) l.listings
