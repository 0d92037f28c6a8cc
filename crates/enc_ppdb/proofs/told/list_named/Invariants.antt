use Rattle.std.proofs.Common.{List, ◌++◌, map, take}
use Rattle.enc_base.specs.declared.token.Token.{Token as TheToken}
use Rattle.enc_generation_map.specs.Places.{AreOfThose}
use Rattle.enc_ppdb.specs.Fault.{named_tokens}
use Rattle.enc_ppdb.specs.Told.{method_named_by, own_told}
use Rattle.enc_ppdb.proofs.told.list_named.Given as goal

-- the methods so far are listed behind the others
abbrev pub invariant-loop-k : goal.invariant-loop-k
invariant-loop-k l = (ts : List TheToken) → AreOfThose l.places ts (own_told l.generation) l.fn.listings
    → AreOfThose l.places (ts ++ take l.k (map method_named_by (named_tokens l.pdb))) (own_told l.generation) l.listings
