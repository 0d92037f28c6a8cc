use Rattle.std.proofs.Common.{◌≡◌, ◌++◌, map, take}
use Rattle.std.specs.Prelude.{filter}
use Rattle.enc_delta.specs.declared.pairs.Pair.{Pair}
use Rattle.enc_delta.specs.Members.{keyed_by_name, AreChildren}
use Rattle.enc_delta.proofs.shared.add_named.Given as goal

abbrev pub invariant-loop-k : goal.invariant-loop-k
invariant-loop-k g l = record {
  named : l.entries.items ≡ l.fn.entries.items ++ map (keyed_by_name (g.M.Members.asked l.members) l.is_new) (filter (λ (p : Pair). (g.M.Members.asked l.members).counts p.child) (take l.k l.pairs));
  children : AreChildren (g.M.Members.asked l.members) (take l.k l.pairs);
}
