use Rattle.std.proofs.Common.{◌≡◌, ◌++◌, length, take, map}
use Rattle.std.specs.Prelude.{IsTrue, ℕ}
use Rattle.enc_base.specs.declared.token.Token.{Token as TheToken}
use Rattle.enc_key_map.specs.Index.{latest}
use Rattle.enc_schema.specs.Children.{is_child_table, owner_table}
use Rattle.enc_plain.specs.Module.{kids_of}
use Rattle.enc_plain.specs.Apply.{gained}
use Rattle.enc_delta.specs.Members.{pair_seen}
use Rattle.enc_agg.specs.Seen.{module_of_all}
use Rattle.enc_agg.specs.Directory.{row_key, kids_key, IsHeld, AreAsOwn}
use Rattle.enc_agg.proofs.Gained.{last_owner}
use Rattle.enc_agg.proofs.entries.gained_by.Given as goal

-- the pairs so far are held
abbrev pub invariant-loop-k : goal.invariant-loop-k
invariant-loop-k l = record {
  same : AreAsOwn l.gained;
  owners : (u : TheToken) → latest l.gained.owners.entries.items (row_key u) ≡ last_owner (take l.k (map pair_seen l.pairs)) u;
  kids : (u : TheToken) (t : ℕ) → IsTrue (is_child_table t) → u.table ≡ owner_table t
      → IsHeld (kids_of (module_of_all l.aggregate) u t ++ gained (take l.k (map pair_seen l.pairs)) u t)
      (length (kids_of (module_of_all l.aggregate) u t)) (latest l.gained.counts.entries.items (kids_key t u 0))
      (λ i. latest l.gained.kids.entries.items (kids_key t u i));
}
