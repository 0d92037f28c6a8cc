use Rattle.std.proofs.Common.{◌≡◌, ◌+◌, ◌<◌, ℕ, length, take, get_or}
use Rattle.std.specs.Prelude.{◌==◌, if◌then◌else◌}
use Rattle.std.specs.List.{list_any}
use Rattle.enc_dispatch.proofs.owners.put_class.Given as goal

abbrev pub invariant-loop-i : goal.invariant-loop-i
invariant-loop-i l = record {
  len : length l.owners.items ≡ length l.fn.owners.items;
  each : (n : ℕ) → n < length l.fn.owners.items → get_or l.owners.items n 0 ≡ (if list_any (λ (k : ℕ). k == n + 1) (take l.i l.kids) then l.class else get_or l.fn.owners.items n 0);
}
