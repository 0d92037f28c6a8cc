use Rattle.std.proofs.Common.{take}
use Rattle.enc_key_map.specs.Index.{value_at}
use Rattle.enc_generation_map.specs.Places.{AreOfThose}
use Rattle.enc_agg.specs.Directory.{row_key}
use Rattle.enc_agg.proofs.listings.listings_behind.Given as goal

-- the tokens so far have their places
abbrev pub invariant-loop-k : goal.invariant-loop-k
invariant-loop-k l = AreOfThose l.places (take l.k l.tokens) (λ u. value_at l.own (row_key u)) l.listings
