use Rattle.std.proofs.Common.{◌≡◌, ◌≤◌, length, take}
use Rattle.std.specs.Prelude.{filter}
use Rattle.enc_rules.specs.Rules.{has_owner}
use Rattle.enc_rules.proofs.whole.owned_rows.Given as goal

abbrev pub invariant-loop-k : goal.invariant-loop-k
invariant-loop-k l = record { counted : l.owned ≡ length (filter has_owner (take l.k l.edits)); few : l.owned ≤ l.k }
