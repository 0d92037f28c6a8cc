use Rattle.std.proofs.Common.{◌≡◌, ◌+◌, ◌≤◌, take}
use Rattle.enc_base.specs.declared.token.Token.{Token as TheToken}
use Rattle.enc_key_map.specs.Index.{latest}
use Rattle.enc_agg.specs.Directory.{row_key, IsSame}
use Rattle.enc_agg.proofs.Gained.{placed}
use Rattle.enc_agg.proofs.entries.places_of.Given as goal

-- the tokens so far have their places
abbrev pub invariant-loop-k : goal.invariant-loop-k
invariant-loop-k g l = record {
  same : IsSame l.places;
  places : (u : TheToken) → latest l.places.entries.items (row_key u) ≡ placed l.generation l.tokens (take l.k l.tokens) u;
  steps : l.steps ≤ l.fn.steps + l.k;
}
