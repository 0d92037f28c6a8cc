use Rattle.std.proofs.Common.{◌≡◌, take, map}
use Rattle.std.specs.Prelude.{filter}
use Rattle.enc_delta.specs.Rules.{least}
use Rattle.enc_delta.specs.Members.{is_new_twin, keyed_number}
use Rattle.enc_delta.proofs.twins.least_twin.Given as goal

abbrev pub invariant-loop-k : goal.invariant-loop-k
invariant-loop-k g l = record {
  kept : l.members ≡ l.fn.members;
  best : l.best ≡ least (map keyed_number (filter (is_new_twin (g.M.Members.asked l.fn.members) l.entries) (take l.k l.entries)));
}
