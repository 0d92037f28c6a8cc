use Rattle.std.proofs.Common.{◌≡◌}
use Rattle.enc_key_map.specs.declared.key.Key.{Key as TheKey}
use Rattle.enc_key_map.specs.Index.{value_at, latest, either}
use Rattle.enc_key_map.proofs.index.Index.put_all.Given as goal

-- with those that are left it is the index with all
abbrev pub invariant-loop-entry : goal.invariant-loop-entry
invariant-loop-entry g l = (q : TheKey) → either (latest l.entry-iterator.rest.items q) (value_at l.self q) ≡ either (latest l.fn.entries.items q) (value_at l.fn.self q)
